-- What a field's client heard in pieces is in its log
use Rattle.std.proofs.Common.{◌≡◌, ℕ, Bool, true, false, List, [], ◌∷◌, ◌++◌, refl, sym, ap, subst, ◌∙◌, arith, append_assoc, append-nil, length-append, inl, inr}
use Rattle.std.specs.Prelude.{◌⊎◌}
use Rattle.wl_wire.specs.Messages.{IsGoodSize, IsPartial, joined}
use Rattle.wl_wire.proofs.SizeInHeader.{size_stays}
use Rattle.wl_proto.specs.declared.interface.Interface.{Interface}
use Rattle.wl_proto.specs.declared.event.Event.{Event}
use Rattle.wl_proto.specs.declared.event.Event.TheVariants as events
use Rattle.trial_field.specs.Log.{Batch, Entry, no_edits}
use Rattle.client_side.specs.Events.{field_objects, AreEvents}
use Rattle.client_side.specs.Client.{Client, after_all, IsWrong}
use Rattle.client_side.specs.FieldState.{State, after_event, logged, log_after}
use Rattle.client_side.specs.Happenings.{Happening, edited, batch, entered, left}
use Rattle.trial_client_logs.specs.Hearing.{Accepts, Refuses, HearsSome}
use Rattle.trial_typing.specs.Fronts.{AreEventsIn}
use Rattle.trial_typing.specs.FieldHearing.{waiting, HeardOn, accepted, refused, unheard, Heard, HeardFirst}
use Rattle.trial_typing.specs.Happened.{edits_in, told_in, waiting_after, happenings}

-- ---- a log that goes on by events

logged_told : (event : Event) (waiting : Batch) (log : List Happening) →
    told_in (logged event waiting log) ≡ told_in log ++ logged event waiting []
logged_told (events.Enter surface) waiting log = refl
logged_told (events.Leave surface) waiting log = refl
logged_told (events.TextInputDone serial) waiting log = refl
logged_told _ waiting log = sym (append-nil (told_in log))

logged_own : (event : Event) (waiting : Batch) (log : List Happening) →
    edits_in (logged event waiting log) ≡ edits_in log
logged_own (events.Enter surface) waiting log = refl
logged_own (events.Leave surface) waiting log = refl
logged_own (events.TextInputDone serial) waiting log = refl
logged_own _ waiting log = refl

waits_is : (event : Event) (s : State) → (after_event event s).pending ≡ waiting_after event s.pending
waits_is (events.Enter surface) s = refl
waits_is (events.Leave surface) s = refl
waits_is (events.PreeditString t begin end) s = refl
waits_is (events.CommitString t) s = refl
waits_is (events.DeleteSurroundingText before behind) s = refl
waits_is (events.TextInputDone serial) s = refl
waits_is _ s = refl

told_after : (all : List Event) (s : State) (log : List Happening) →
    told_in (log_after all s log) ≡ told_in log ++ happenings all s.pending
told_after [] s log = sym (append-nil (told_in log))
told_after (event ∷ more) s log =
    told_after more (after_event event s) (logged event s.pending log)
    ∙ ap (λ (l : List Happening). l ++ happenings more (after_event event s).pending) (logged_told event s.pending log)
    ∙ ap (λ (w : Batch). (told_in log ++ logged event s.pending []) ++ happenings more w) (waits_is event s)
    ∙ append_assoc (told_in log) (logged event s.pending []) (happenings more (waiting_after event s.pending))

own_after : (all : List Event) (s : State) (log : List Happening) → edits_in (log_after all s log) ≡ edits_in log
own_after [] s log = refl
own_after (event ∷ more) s log =
    own_after more (after_event event s) (logged event s.pending log) ∙ logged_own event s.pending log

waits_after : (all : List Event) (s : State) → (after_all after_event all s).pending ≡ waiting all s.pending
waits_after [] s = refl
waits_after (event ∷ more) s = waits_after more (after_event event s) ∙ ap (waiting more) (waits_is event s)

happenings-append : (xs ys : List Event) (w : Batch) →
    happenings (xs ++ ys) w ≡ happenings xs w ++ happenings ys (waiting xs w)
happenings-append [] ys w = refl
happenings-append (x ∷ xs) ys w =
    ap (λ (l : List Happening). logged x w [] ++ l) (happenings-append xs ys (waiting_after x w))
    ∙ sym (append_assoc (logged x w []) (happenings xs (waiting_after x w))
    (happenings ys (waiting xs (waiting_after x w))))

waiting-append : (xs ys : List Event) (w : Batch) → waiting (xs ++ ys) w ≡ waiting ys (waiting xs w)
waiting-append [] ys w = refl
waiting-append (x ∷ xs) ys w = waiting-append xs ys (waiting_after x w)

-- ---- messages in turn

pub are-both : (objects : List Interface) (ms : List (List ℕ)) (es : List Event) (ns : List (List ℕ)) (fs : List Event)
    →
    AreEvents objects ms es → AreEvents objects ns fs → AreEvents objects (ms ++ ns) (es ++ fs)
are-both objects [] [] ns fs are more = more
are-both objects (m ∷ ms) (e ∷ es) ns fs are more = (are.0, are.1, are-both objects ms es ns fs are.2 more)
are-both objects [] (e ∷ es) ns fs are more = absurd are
are-both objects (m ∷ ms) [] ns fs are more = absurd are

pub joined-both : (xs ys : List (List ℕ)) → joined (xs ++ ys) ≡ joined xs ++ joined ys
joined-both [] ys = refl
joined-both (x ∷ xs) ys =
    ap (λ (r : List ℕ). x ++ r) (joined-both xs ys) ∙ sym (append_assoc x (joined xs) (joined ys))

-- what goes wrong does so whatever comes
pub wrong_on : (objects : List Interface) (rest more : List ℕ) → IsWrong objects rest → IsWrong objects (rest ++ more)
wrong_on objects rest more (inl bad) =
    let long = bad.0 in
    inl (
      omega (arith, length-append rest more),
      λ good. bad.1 (subst IsGoodSize (size_stays rest more bad.0) good),
    )
wrong_on objects rest more (inr w) =
    inr (w.0, w.1 ++ more, ap (λ (b : List ℕ). b ++ more) w.2 ∙ append_assoc w.0 w.1 more, w.3, w.4)

-- ---- the client

-- what is left is a part of an event, or goes wrong
pub are_all : (taken : List ℕ) (c : Client State) (log : List Happening) (own : List Entry) (h : Heard taken c log own)
    →
    AreEventsIn field_objects taken h.events
are_all taken c log own h = record {
  begins = record { messages = h.messages; rest = h.rest; are = h.are; front = h.front };
  left = by c.is_bad refl;
}
  where
    by : (b : Bool) → c.is_bad ≡ b → IsPartial h.rest ⊎ IsWrong field_objects h.rest
    by true e = inr (h.bad e)
    by false e = inl (h.good e).1

-- bytes that go on, by what the client holds of them
pub front_on : (taken piece held rest last : List ℕ) (ms ns : List (List ℕ)) → taken ≡ joined ms ++ rest → rest ≡ held →
    held ++ piece ≡ joined ns ++ last → taken ++ piece ≡ joined (ms ++ ns) ++ last
front_on taken piece held rest last ms ns front same more =
    ap (λ (b : List ℕ). b ++ piece) front ∙ append_assoc (joined ms) rest piece
    ∙ ap (λ (r : List ℕ). joined ms ++ (r ++ piece)) same ∙ ap (λ (r : List ℕ). joined ms ++ r) more
    ∙ sym (append_assoc (joined ms) (joined ns) last) ∙ ap (λ (r : List ℕ). r ++ last) (sym (joined-both ms ns))

-- what the log has where the client read on
told_on : (h k : List Event) (s : State) (log after : List Happening) → s.pending ≡ waiting h no_edits →
    told_in log ≡ happenings h no_edits → log_after k s log ≡ after → told_in after ≡ happenings (h ++ k) no_edits
told_on h k s log after waits told is =
    ap told_in (sym is) ∙ told_after k s log ∙ ap (λ (l : List Happening). l ++ happenings k s.pending) told
    ∙ ap (λ (w : Batch). happenings h no_edits ++ happenings k w) waits ∙ sym (happenings-append h k no_edits)

-- a piece is accepted
accepts_on : (taken piece : List ℕ) (old new : Client State) (log after : List Happening) (own : List Entry) →
    Heard taken old log own → old.is_bad ≡ false →
    Accepts field_objects after_event log_after old new log after piece →
    Heard (taken ++ piece) new after own
accepts_on taken piece old new log after own h e a =
    let k = a.hears in
    record {
      events = h.events ++ k.events;
      messages = h.messages ++ k.messages;
      rest = new.held;
      are = are-both field_objects h.messages h.events k.messages k.events h.are k.are;
      front = front_on taken piece old.held h.rest new.held h.messages k.messages h.front (h.good e).0 k.front;
      good = λ f. (refl, a.partial);
      bad = λ f. absurd (let no : false ≡ true = sym a.good ∙ f in cc);
      waits = λ f.
          ap (λ (s : State). s.pending) k.state-is ∙ waits_after k.events old.state
          ∙ ap (waiting k.events) (h.waits e) ∙ sym (waiting-append h.events k.events no_edits);
      told = told_on h.events k.events old.state log after (h.waits e) h.told k.log-is;
      own-is = ap edits_in (sym k.log-is) ∙ own_after k.events old.state log ∙ h.own-is;
    }

-- it is refused
refuses_on : (taken piece : List ℕ) (old new : Client State) (log after : List Happening) (own : List Entry) →
    Heard taken old log own → old.is_bad ≡ false →
    Refuses field_objects after_event log_after old new log after piece →
    Heard (taken ++ piece) new after own
refuses_on taken piece old new log after own h e r =
    let k = r.hears in
    record {
      events = h.events ++ k.events;
      messages = h.messages ++ k.messages;
      rest = r.rest;
      are = are-both field_objects h.messages h.events k.messages k.events h.are k.are;
      front = front_on taken piece old.held h.rest r.rest h.messages k.messages h.front (h.good e).0 k.front;
      good = λ f. absurd (let no : true ≡ false = sym r.bad ∙ f in cc);
      bad = λ f. r.wrong;
      waits = λ f. absurd (let no : true ≡ false = sym r.bad ∙ f in cc);
      told = told_on h.events k.events old.state log after (h.waits e) h.told k.log-is;
      own-is = ap edits_in (sym k.log-is) ∙ own_after k.events old.state log ∙ h.own-is;
    }

-- the client is bad: it hears nothing more
bad_on : (taken piece : List ℕ) (c : Client State) (log : List Happening) (own : List Entry) → Heard taken c log own →
    c.is_bad ≡ true → Heard (taken ++ piece) c log own
bad_on taken piece c log own h e = record {
  events = h.events;
  messages = h.messages;
  rest = h.rest ++ piece;
  are = h.are;
  front = ap (λ (b : List ℕ). b ++ piece) h.front ∙ append_assoc (joined h.messages) h.rest piece;
  good = λ f. absurd (let no : true ≡ false = sym e ∙ f in cc);
  bad = λ f. wrong_on field_objects h.rest piece (h.bad e);
  waits = λ f. absurd (let no : true ≡ false = sym e ∙ f in cc);
  told = h.told;
  own-is = h.own-is;
}

-- what the client was given is heard so
pub goes_on : (taken piece : List ℕ) (old new : Client State) (log after : List Happening) (own : List Entry) →
    Heard taken old log own → HeardOn old new log after piece → Heard (taken ++ piece) new after own
goes_on taken piece old new log after own h (accepted e a) = accepts_on taken piece old new log after own h e a
goes_on taken piece old new log after own h (refused e r) = refuses_on taken piece old new log after own h e r
goes_on taken piece old new log after own h (unheard e same kept) =
    subst (λ (c : Client State). Heard (taken ++ piece) c after own) (sym same)
    (subst (λ (l : List Happening). Heard (taken ++ piece) old l own) (sym kept) (bad_on taken piece old log own h e))

-- one own edit more
pub edit_on : (taken : List ℕ) (old new : Client State) (log after : List Happening) (own : List Entry) (edit : Entry) →
    Heard taken old log own → new.is_bad ≡ old.is_bad → new.held ≡ old.held → new.state.pending ≡ old.state.pending →
    after ≡ edited edit ∷ log → Heard taken new after (own ++ edit ∷ [])
edit_on taken old new log after own edit h bad held waits is = record {
  events = h.events;
  messages = h.messages;
  rest = h.rest;
  are = h.are;
  front = h.front;
  good = λ f. let g = h.good (sym bad ∙ f) in (g.0 ∙ sym held, g.1);
  bad = λ f. h.bad (sym bad ∙ f);
  waits = λ f. waits ∙ h.waits (sym bad ∙ f);
  told = ap told_in is ∙ h.told;
  own-is = ap edits_in is ∙ ap (λ (l : List Entry). l ++ edit ∷ []) h.own-is;
}

-- ---- a client that lacked memory

told-append : (a b : List Happening) → told_in (a ++ b) ≡ told_in b ++ told_in a
told-append [] b = sym (append-nil (told_in b))
told-append (edited edit ∷ a) b = told-append a b
told-append (batch edits serial ∷ a) b =
    ap (λ (l : List Happening). l ++ batch edits serial ∷ []) (told-append a b)
    ∙ append_assoc (told_in b) (told_in a) (batch edits serial ∷ [])
told-append (entered ∷ a) b =
    ap (λ (l : List Happening). l ++ entered ∷ []) (told-append a b)
    ∙ append_assoc (told_in b) (told_in a) (entered ∷ [])
told-append (left ∷ a) b =
    ap (λ (l : List Happening). l ++ left ∷ []) (told-append a b) ∙ append_assoc (told_in b) (told_in a) (left ∷ [])

own-append : (a b : List Happening) → edits_in (a ++ b) ≡ edits_in b ++ edits_in a
own-append [] b = sym (append-nil (edits_in b))
own-append (edited edit ∷ a) b =
    ap (λ (l : List Entry). l ++ edit ∷ []) (own-append a b) ∙ append_assoc (edits_in b) (edits_in a) (edit ∷ [])
own-append (batch edits serial ∷ a) b = own-append a b
own-append (entered ∷ a) b = own-append a b
own-append (left ∷ a) b = own-append a b

-- where all was heard
pub all_first : (taken : List ℕ) (c : Client State) (log : List Happening) (own : List Entry) → Heard taken c log own →
    HeardFirst taken log own
all_first taken c log own h = record {
  events = h.events;
  begins = record { messages = h.messages; rest = h.rest; are = h.are; front = h.front };
  told = record { rest = []; is = sym h.told ∙ sym (append-nil (told_in log)) };
  own-is = record { rest = []; is = sym h.own-is ∙ sym (append-nil (edits_in log)) };
}

some_on : (taken piece : List ℕ) (old new : Client State) (log after : List Happening) (own : List Entry) →
    Heard taken old log own → old.is_bad ≡ false →
    HearsSome field_objects after_event log_after old new log after piece →
    HeardFirst (taken ++ piece) after own
some_on taken piece old new log after own h e s =
    let k = s.hears in
    let L : List Happening = log_after k.events old.state log in
    record {
      events = h.events ++ k.events;
      begins = record {
        messages = h.messages ++ k.messages;
        rest = s.rest;
        are = are-both field_objects h.messages h.events k.messages k.events h.are k.are;
        front = front_on taken piece old.held h.rest s.rest h.messages k.messages h.front (h.good e).0 k.front;
      };
      told = record {
        rest = told_in s.missing;
        is = sym (told_on h.events k.events old.state log L (h.waits e) h.told refl)
            ∙ ap told_in k.log-is ∙ told-append s.missing after;
      };
      own-is = record {
        rest = edits_in s.missing;
        is = sym h.own-is ∙ sym (own_after k.events old.state log) ∙ ap edits_in k.log-is
            ∙ own-append s.missing after;
      };
    }

pub first_on : (taken piece : List ℕ) (old new : Client State) (log after : List Happening) (own : List Entry) →
    Heard taken old log own → (old.is_bad ≡ true → after ≡ log) →
    HearsSome field_objects after_event log_after old new log after piece →
    HeardFirst (taken ++ piece) after own
first_on taken piece old new log after own h same s = by old.is_bad refl
  where
    by : (b : Bool) → old.is_bad ≡ b → HeardFirst (taken ++ piece) after own
    by true e =
        subst (λ (l : List Happening). HeardFirst (taken ++ piece) l own) (sym (same e))
        (all_first (taken ++ piece) old log own (bad_on taken piece old log own h e))
    by false e = some_on taken piece old new log after own h e s
