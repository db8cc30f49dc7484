-- What a field's client makes of pieces is what the whole of their bytes tells it.
use Rattle.std.proofs.Common.{◌≡◌, ℕ, ◌+◌, ◌%◌, Bool, true, false, not, ◌||◌, leb, List, [], ◌∷◌, ◌++◌, length, drop, Option, Some, None, refl, sym, ap, subst, ◌∙◌, arith, append_assoc, length-append}
use Rattle.std.specs.Prelude.{if◌then◌else◌}
use Rattle.std.proofs.lemmas.List.{append-nil, drop_at}
use Rattle.std.proofs.Math.Seq.{drop-append-add}
use Rattle.std.proofs.lemmas.Bool.{and_parts, leb-true, le-leb, eq-eqb, true≢false}
use Rattle.wl_wire.specs.Messages.{IsGoodSize, IsBad, messages, joined, size_of, is_good}
use Rattle.wl_wire.proofs.MessagesHoweverCut.{longest}
use Rattle.wl_wire.proofs.SizeInHeader.{size_stays}
use Rattle.wl_proto.specs.declared.event.Event.{Event}
use Rattle.wl_proto.specs.declared.event.Event.TheVariants as events
use Rattle.trial_field.specs.Log.{Batch, Entry, no_edits}
use Rattle.client_side.specs.Events.{field_objects}
use Rattle.client_side.specs.Client.{Client, after_all}
use Rattle.client_side.specs.Happenings.{Happening}
use Rattle.client_side.specs.FieldState.{State, after_event, logged, log_after, HasLog}
use Rattle.client_side.specs.FieldState.{new_state, happens}
use Rattle.client_side.specs.Happenings.{edited, batch, entered, left}
use Rattle.client_side.specs.Messages.{spelled, field_setup}
use Rattle.client_side.proofs.LogGoesOn.{one_more_happened}
use Rattle.trial_run.specs.Hearing.{event_in, Heard, heard_next, heard, behind, has_bad_size, bytes_heard, received}
use Rattle.trial_run.proofs.FirstMessages.{found_first}
use Rattle.trial_run.proofs.FrontOfBytes.{bad_none}
use Rattle.trial_run.proofs.PieceHeard.{stays_bad}
use Rattle.trial_laws.specs.FieldLogs.{edits_in, told_in, then_events, events_in, waiting_after, happenings}

-- ---- a log that goes on by events

logged_told : (event : Event) (waiting : Batch) (log : List Happening) →
    told_in (logged event waiting log) ≡ told_in log ++ logged event waiting []
logged_told (events.Enter surface) waiting log = refl
logged_told (events.Leave surface) waiting log = refl
logged_told (events.TextInputDone serial) waiting log = refl
logged_told _ waiting log = sym (append-nil (told_in log))

logged_own : (event : Event) (waiting : Batch) (log : List Happening) →
    edits_in (logged event waiting log) ≡ edits_in log
logged_own (events.Enter surface) waiting log = refl
logged_own (events.Leave surface) waiting log = refl
logged_own (events.TextInputDone serial) waiting log = refl
logged_own _ waiting log = refl

waits_is : (event : Event) (s : State) → (after_event event s).pending ≡ waiting_after event s.pending
waits_is (events.Enter surface) s = refl
waits_is (events.Leave surface) s = refl
waits_is (events.PreeditString t begin end) s = refl
waits_is (events.CommitString t) s = refl
waits_is (events.DeleteSurroundingText before behind) s = refl
waits_is (events.TextInputDone serial) s = refl
waits_is _ s = refl

told_after : (all : List Event) (s : State) (log : List Happening) →
    told_in (log_after all s log) ≡ told_in log ++ happenings all s.pending
told_after [] s log = sym (append-nil (told_in log))
told_after (event ∷ more) s log =
    told_after more (after_event event s) (logged event s.pending log)
    ∙ ap (λ (l : List Happening). l ++ happenings more (after_event event s).pending) (logged_told event s.pending log)
    ∙ ap (λ (w : Batch). (told_in log ++ logged event s.pending []) ++ happenings more w) (waits_is event s)
    ∙ append_assoc (told_in log) (logged event s.pending []) (happenings more (waiting_after event s.pending))

own_after : (all : List Event) (s : State) (log : List Happening) → edits_in (log_after all s log) ≡ edits_in log
own_after [] s log = refl
own_after (event ∷ more) s log =
    own_after more (after_event event s) (logged event s.pending log) ∙ logged_own event s.pending log

-- what is sent and shown is that of the log
one_event : (event : Event) (log : List Happening) (sent : List ℕ) (s : State) → HasLog log sent s →
    HasLog (logged event s.pending log) sent (after_event event s)
one_event (events.Enter surface) log sent s has = one_more_happened entered log sent s has
one_event (events.Leave surface) log sent s has = one_more_happened left log sent s has
one_event (events.TextInputDone serial) log sent s has =
    let h = one_more_happened (batch s.pending serial) log sent s has in
    record { field = h.field; text = h.text; bytes = h.bytes }
one_event (events.PreeditString t begin end) log sent s has =
    record { field = has.field; text = has.text; bytes = has.bytes }
one_event (events.CommitString t) log sent s has = record { field = has.field; text = has.text; bytes = has.bytes }
one_event (events.DeleteSurroundingText before behind) log sent s has =
    record { field = has.field; text = has.text; bytes = has.bytes }
one_event _ log sent s has = has

has_after : (all : List Event) (log : List Happening) (sent : List ℕ) (s : State) → HasLog log sent s →
    HasLog (log_after all s log) sent (after_all after_event all s)
has_after [] log sent s has = has
has_after (event ∷ more) log sent s has =
    has_after more (logged event s.pending log) sent (after_event event s) (one_event event log sent s has)

-- the edits that wait after events
abbrev pub waiting : List Event → Batch → Batch
waiting [] w = w
waiting (event ∷ more) w = waiting more (waiting_after event w)

waits_after : (all : List Event) (s : State) → (after_all after_event all s).pending ≡ waiting all s.pending
waits_after [] s = refl
waits_after (event ∷ more) s = waits_after more (after_event event s) ∙ ap (waiting more) (waits_is event s)

pub happenings-append : (xs ys : List Event) (w : Batch) →
    happenings (xs ++ ys) w ≡ happenings xs w ++ happenings ys (waiting xs w)
happenings-append [] ys w = refl
happenings-append (x ∷ xs) ys w =
    ap (λ (l : List Happening). logged x w [] ++ l) (happenings-append xs ys (waiting_after x w))
    ∙ sym (append_assoc (logged x w []) (happenings xs (waiting_after x w))
    (happenings ys (waiting xs (waiting_after x w))))

pub waiting-append : (xs ys : List Event) (w : Batch) → waiting (xs ++ ys) w ≡ waiting ys (waiting xs w)
waiting-append [] ys w = refl
waiting-append (x ∷ xs) ys w = waiting-append xs ys (waiting_after x w)

-- ---- messages in turn

-- what is heard in messages, and in more behind them
record HeardAs (now : List Event) (later : List (List ℕ) → List Event) (s : State) (h : Heard State) : Type 0 where
  state : h.state ≡ after_all after_event now s
  good : h.is_bad ≡ false → (more : List (List ℕ)) → later more ≡ now ++ events_in more
  bad : h.is_bad ≡ true → (more : List (List ℕ)) → later more ≡ now

next_as : (o : Option Event) (ms : List (List ℕ)) (s : State) →
    ((u : State) → HeardAs (events_in ms) (λ more. events_in (ms ++ more)) u (heard after_event field_objects ms u)) →
    HeardAs (then_events o (events_in ms)) (λ more. then_events o (events_in (ms ++ more))) s
    (heard_next after_event o s (heard after_event field_objects ms))
next_as None ms s k = record {
  state = refl;
  good = λ e more. (let no : true ≡ false = e in cc);
  bad = λ e more. refl;
}
next_as (Some event) ms s k =
    let h = k (after_event event s) in
    record {
      state = h.state;
      good = λ e more. ap (λ (l : List Event). event ∷ l) (h.good e more);
      bad = λ e more. ap (λ (l : List Event). event ∷ l) (h.bad e more);
    }

heard_as : (ms : List (List ℕ)) (s : State) →
    HeardAs (events_in ms) (λ more. events_in (ms ++ more)) s (heard after_event field_objects ms s)
heard_as [] s = record {
  state = refl;
  good = λ e more. refl;
  bad = λ e more. (let no : false ≡ true = e in cc);
}
heard_as (m ∷ ms) s = next_as (event_in field_objects m) ms s (λ u. heard_as ms u)

-- ---- bytes that go on

-- what the messages leave, by another name
rest_is : (bytes : List ℕ) → behind bytes ≡ (longest bytes).rest
rest_is bytes =
    let l = longest bytes in
    ap (drop (length (joined (messages bytes)))) l.front ∙ drop_at (joined (messages bytes)) l.rest _ refl

whole_is : (bytes piece : List ℕ) → bytes ++ piece ≡ joined (messages bytes) ++ (behind bytes ++ piece)
whole_is bytes piece =
    let l = longest bytes in
    ap (λ (b : List ℕ). b ++ piece) (l.front ∙ ap (λ (r : List ℕ). joined (messages bytes) ++ r) (sym (rest_is bytes)))
    ∙ append_assoc (joined (messages bytes)) (behind bytes) piece

pub messages_on : (bytes piece : List ℕ) →
    messages (bytes ++ piece) ≡ messages bytes ++ messages (behind bytes ++ piece)
messages_on bytes piece =
    ap messages (whole_is bytes piece) ∙ found_first (messages bytes) (behind bytes ++ piece) (longest bytes).each

joined-append : (xs ys : List (List ℕ)) → joined (xs ++ ys) ≡ joined xs ++ joined ys
joined-append [] ys = refl
joined-append (x ∷ xs) ys =
    ap (λ (r : List ℕ). x ++ r) (joined-append xs ys) ∙ sym (append_assoc x (joined xs) (joined ys))

behind_on : (bytes piece : List ℕ) → behind (bytes ++ piece) ≡ behind (behind bytes ++ piece)
behind_on bytes piece =
    let ms : List (List ℕ) = messages bytes in
    let later : List (List ℕ) = messages (behind bytes ++ piece) in
    let long : length (joined (messages (bytes ++ piece))) ≡ length (joined ms) + length (joined later) =
    ap (λ (l : List (List ℕ)). length (joined l)) (messages_on bytes piece)
    ∙ ap length (joined-append ms later) ∙ length-append (joined ms) (joined later) in
    ap (λ n. drop n (bytes ++ piece)) long
    ∙ ap (drop (length (joined ms) + length (joined later))) (whole_is bytes piece)
    ∙ drop-append-add (joined ms) (behind bytes ++ piece) (length (joined later))

not_true : (b : Bool) → not b ≡ true → b ≡ false
not_true true e = cc
not_true false e = refl

good_is : (n : ℕ) → IsGoodSize n → is_good n ≡ true
good_is n h = rw (le-leb 8 n h.0, le-leb n 4096 h.1, eq-eqb (n % 4) 0 h.2) refl

-- behind a bad size there is no message, whatever comes
pub bad_on : (rest more : List ℕ) → has_bad_size rest ≡ true → messages (rest ++ more) ≡ []
bad_on rest more e = bad_none (rest ++ more) (stays (is_bad rest e))
  where
    is_bad : (bytes : List ℕ) → has_bad_size bytes ≡ true → IsBad bytes
    is_bad bytes e =
        let parts = and_parts (leb 8 (length bytes)) (not (is_good (size_of bytes))) e in (
          leb-true 8 (length bytes) parts.0,
          λ good. true≢false (sym (good_is (size_of bytes) good) ∙ not_true (is_good (size_of bytes)) parts.1),
        )

    stays : IsBad rest → IsBad (rest ++ more)
    stays bad = (
      let long = bad.0 in omega (arith, length-append rest more),
      λ good. bad.1 (subst IsGoodSize (size_stays rest more bad.0) good),
    )

-- ---- the client

-- the client heard these bytes, and its log has what they tell and its own edits
pub record IsGoing (bytes : List ℕ) (c : Client State) : Type 0 where
  waits : c.state.pending ≡ waiting (events_in (messages bytes)) no_edits
  rest : c.held ≡ behind bytes
  pub spelled : (more : List (List ℕ)) →
      events_in (messages bytes ++ more) ≡ events_in (messages bytes) ++ events_in more

pub record HasHeard (bytes : List ℕ) (c : Client State) (own : List Entry) : Type 0 where
  pub log : List Happening
  pub sent : List ℕ
  pub has : HasLog log sent c.state
  pub own-is : edits_in log ≡ own
  pub told : told_in log ≡ happenings (events_in (messages bytes)) no_edits
  pub going : c.is_bad ≡ false → IsGoing bytes c
  pub stuck : c.is_bad ≡ true → (piece : List ℕ) → events_in (messages (bytes ++ piece)) ≡ events_in (messages bytes)

hears_bad : (bytes piece : List ℕ) (c : Client State) (own : List Entry) → c.is_bad ≡ true → HasHeard bytes c own →
    HasHeard (bytes ++ piece) (received after_event field_objects piece c) own
hears_bad bytes piece c own e h =
    subst (λ (n : Client State). HasHeard (bytes ++ piece) n own)
    (sym (stays_bad after_event field_objects c piece e))
    (record {
      log = h.log;
      sent = h.sent;
      has = h.has;
      own-is = h.own-is;
      told = h.told ∙ ap (λ (l : List Event). happenings l no_edits) (sym (h.stuck e piece));
      going = λ f. absurd (let no : true ≡ false = sym e ∙ f in cc);
      stuck = λ f more. ap (λ (b : List ℕ). events_in (messages b)) (append_assoc bytes piece more)
          ∙ h.stuck e (piece ++ more) ∙ sym (h.stuck e piece);
    })

is_received : (c : Client State) (piece : List ℕ) → c.is_bad ≡ false →
    received after_event field_objects piece c ≡ bytes_heard after_event field_objects (c.held ++ piece) c.state
unfolding received
is_received c piece e =
    ap (λ (b : Bool). if b then c else bytes_heard after_event field_objects (c.held ++ piece) c.state) e

abbrev held_with : Client State → List ℕ → List ℕ
held_with c piece = c.held ++ piece

abbrev told_by : Client State → List ℕ → List Event
told_by c piece = events_in (messages (held_with c piece))

found_on : (bytes piece : List ℕ) (c : Client State) → IsGoing bytes c →
    messages (bytes ++ piece) ≡ messages bytes ++ messages (held_with c piece)
found_on bytes piece c g =
    messages_on bytes piece ∙ ap (λ (r : List ℕ). messages bytes ++ messages (r ++ piece)) (sym g.rest)

events_on : (bytes piece : List ℕ) (c : Client State) → IsGoing bytes c →
    events_in (messages (bytes ++ piece)) ≡ events_in (messages bytes) ++ told_by c piece
events_on bytes piece c g = ap events_in (found_on bytes piece c g) ∙ g.spelled (messages (held_with c piece))

-- and behind these messages
events_then : (bytes piece : List ℕ) (c : Client State) → IsGoing bytes c → (more : List (List ℕ)) →
    events_in (messages (bytes ++ piece) ++ more)
    ≡ events_in (messages bytes) ++ events_in (messages (held_with c piece) ++ more)
events_then bytes piece c g more =
    ap (λ (ms : List (List ℕ)). events_in (ms ++ more)) (found_on bytes piece c g)
    ∙ ap events_in (append_assoc (messages bytes) (messages (held_with c piece)) more)
    ∙ g.spelled (messages (held_with c piece) ++ more)

left_on : (bytes piece : List ℕ) (c : Client State) → IsGoing bytes c →
    behind (bytes ++ piece) ≡ behind (held_with c piece)
left_on bytes piece c g = behind_on bytes piece ∙ ap (λ (r : List ℕ). behind (r ++ piece)) (sym g.rest)

still_going : (bytes piece : List ℕ) (c : Client State) (h : Heard State) (bad : Bool) →
    HeardAs (told_by c piece) (λ more. events_in (messages (held_with c piece) ++ more)) c.state h → IsGoing bytes c →
    (h.is_bad || bad) ≡ false →
    IsGoing (bytes ++ piece)
    (record {
      state = h.state;
      held = if h.is_bad || bad then held_with c piece else behind (held_with c piece);
      is_bad = h.is_bad || bad;
    })
still_going bytes piece c h bad k g f = record {
  waits =
      ap (λ (s : State). s.pending) k.state ∙ waits_after (told_by c piece) c.state
      ∙ ap (waiting (told_by c piece)) g.waits
      ∙ sym (waiting-append (events_in (messages bytes)) (told_by c piece) no_edits)
      ∙ ap (λ (l : List Event). waiting l no_edits) (sym (events_on bytes piece c g));
  rest =
      ap (λ (b : Bool). if b then held_with c piece else behind (held_with c piece)) f ∙ sym (left_on bytes piece c g);
  spelled = λ more.
      events_then bytes piece c g more
      ∙ ap (λ (l : List Event). events_in (messages bytes) ++ l) (k.good (none_or h.is_bad bad f) more)
      ∙ sym (append_assoc (events_in (messages bytes)) (told_by c piece) (events_in more))
      ∙ ap (λ (l : List Event). l ++ events_in more) (sym (events_on bytes piece c g));
}
  where
    none_or : (a b : Bool) → (a || b) ≡ false → a ≡ false
    none_or true b e = cc
    none_or false b e = refl

now_stuck : (bytes piece : List ℕ) (c : Client State) (h : Heard State) →
    HeardAs (told_by c piece) (λ more. events_in (messages (held_with c piece) ++ more)) c.state h → IsGoing bytes c →
    (h.is_bad || has_bad_size (behind (held_with c piece))) ≡ true → (more : List ℕ) →
    events_in (messages ((bytes ++ piece) ++ more)) ≡ events_in (messages (bytes ++ piece))
now_stuck bytes piece c h k g f more = by h.is_bad refl f
  where
    by : (b : Bool) → h.is_bad ≡ b → (b || has_bad_size (behind (held_with c piece))) ≡ true →
        events_in (messages ((bytes ++ piece) ++ more)) ≡ events_in (messages (bytes ++ piece))
    by true e f =
        ap events_in (messages_on (bytes ++ piece) more)
        ∙ events_then bytes piece c g (messages (behind (bytes ++ piece) ++ more))
        ∙ ap (λ (l : List Event). events_in (messages bytes) ++ l)
        (k.bad e (messages (behind (bytes ++ piece) ++ more)))
        ∙ sym (events_on bytes piece c g)
    by false e f =
        let none : messages (behind (bytes ++ piece) ++ more) ≡ [] =
        ap (λ (r : List ℕ). messages (r ++ more)) (left_on bytes piece c g)
        ∙ bad_on (behind (held_with c piece)) more f in
        ap events_in (messages_on (bytes ++ piece) more
        ∙ ap (λ (ms : List (List ℕ)). messages (bytes ++ piece) ++ ms) none
        ∙ append-nil (messages (bytes ++ piece)))

hears_good : (bytes piece : List ℕ) (c : Client State) (own : List Entry) → c.is_bad ≡ false → HasHeard bytes c own →
    HasHeard (bytes ++ piece) (received after_event field_objects piece c) own
hears_good bytes piece c own e h =
    let g = h.going e in
    let all : List Event = told_by c piece in
    let k = heard_as (messages (held_with c piece)) c.state in
    let now : Heard State = heard after_event field_objects (messages (held_with c piece)) c.state in
    subst (λ (n : Client State). HasHeard (bytes ++ piece) n own) (sym (is_received c piece e))
    (record {
      log = log_after all c.state h.log;
      sent = h.sent;
      has = subst (λ (s : State). HasLog (log_after all c.state h.log) h.sent s) (sym k.state)
          (has_after all h.log h.sent c.state h.has);
      own-is = own_after all c.state h.log ∙ h.own-is;
      told =
          told_after all c.state h.log
          ∙ ap (λ (l : List Happening). l ++ happenings all c.state.pending) h.told
          ∙ ap (λ (w : Batch). happenings (events_in (messages bytes)) no_edits ++ happenings all w) g.waits
          ∙ sym (happenings-append (events_in (messages bytes)) all no_edits)
          ∙ ap (λ (l : List Event). happenings l no_edits) (sym (events_on bytes piece c g));
      going = λ f. still_going bytes piece c now (has_bad_size (behind (held_with c piece))) k g f;
      stuck = λ f more. now_stuck bytes piece c now k g f more;
    })

-- one more piece comes
pub hears_on : (bytes piece : List ℕ) (c : Client State) (own : List Entry) → HasHeard bytes c own →
    HasHeard (bytes ++ piece) (received after_event field_objects piece c) own
hears_on bytes piece c own h = by c.is_bad refl
  where
    by : (b : Bool) → c.is_bad ≡ b → HasHeard (bytes ++ piece) (received after_event field_objects piece c) own
    by true e = hears_bad bytes piece c own e h
    by false e = hears_good bytes piece c own e h

-- ---- what is sent, and what the user does

-- all that waits is sent
pub is_sent : (bytes : List ℕ) (c : Client State) (own : List Entry) → HasHeard bytes c own →
    HasHeard bytes (record c { state = record c.state { to_send = [] } }) own
is_sent bytes c own h = record {
  log = h.log;
  sent = h.sent ++ c.state.to_send;
  has = record {
    field = h.has.field;
    text = h.has.text;
    bytes = append-nil (h.sent ++ c.state.to_send) ∙ h.has.bytes;
  };
  own-is = h.own-is;
  told = h.told;
  going = λ e. (let g = h.going e in record { waits = g.waits; rest = g.rest; spelled = g.spelled });
  stuck = h.stuck;
}

-- the field's own user edits it
pub is_edited : (bytes : List ℕ) (c : Client State) (own : List Entry) (edit : Entry) → HasHeard bytes c own →
    HasHeard bytes (record c { state = happens (edited edit) c.state }) (own ++ edit ∷ [])
is_edited bytes c own edit h = record {
  log = edited edit ∷ h.log;
  sent = h.sent;
  has = one_more_happened (edited edit) h.log h.sent c.state h.has;
  own-is = ap (λ (l : List Entry). l ++ edit ∷ []) h.own-is;
  told = h.told;
  going = λ e. (let g = h.going e in record { waits = g.waits; rest = g.rest; spelled = g.spelled });
  stuck = h.stuck;
}

-- a new client took nothing
pub is_new : HasHeard [] (record { state = new_state; held = []; is_bad = false }) []
unfolding messages
is_new = record {
  log = [];
  sent = [];
  has = record { field = refl; text = refl; bytes = sym (append-nil (spelled field_setup)) };
  own-is = refl;
  told = refl;
  going = λ e. record { waits = refl; rest = refl; spelled = λ more. refl };
  stuck = λ e. absurd (let no : false ≡ true = e in cc);
}
