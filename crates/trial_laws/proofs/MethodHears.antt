-- What the method's client makes of pieces is what the whole of their bytes tells it.
use Rattle.std.proofs.Common.{◌≡◌, ℕ, Bool, true, false, ◌||◌, List, [], ◌∷◌, ◌++◌, Option, Some, None, refl, sym, ap, subst, ◌∙◌, append_assoc}
use Rattle.std.specs.Prelude.{if◌then◌else◌}
use Rattle.std.proofs.lemmas.List.{append-nil}
use Rattle.wl_wire.specs.Messages.{messages}
use Rattle.wl_proto.specs.declared.event.Event.{Event}
use Rattle.trial_field.specs.Log.{Batch}
use Rattle.client_side.specs.Events.{method_objects}
use Rattle.client_side.specs.Client.{Client, after_all}
use Rattle.client_side.specs.Messages.{Sent, spelled, method_setup}
use Rattle.client_side.specs.MethodLog.{Happening, came, committed, Typist, sent_for, typist_after, typist_of, sends_of}
use Rattle.client_side.specs.MethodState.{State, new_state, happens, after_event, log_after}
use Rattle.client_side.proofs.SpelledInTurn.{spelled-append}
use Rattle.trial_run.specs.declared.typist.TrialTypist.{TrialTypist}
use Rattle.trial_run.specs.Hearing.{event_in, Heard, heard_next, heard, behind, has_bad_size, bytes_heard, received}
use Rattle.trial_run.specs.Typists.{meanings_of}
use Rattle.trial_run.proofs.PieceHeard.{stays_bad}
use Rattle.trial_laws.specs.FieldLogs.{then_events}
use Rattle.trial_laws.proofs.HeardInPieces.{messages_on, bad_on}
use Rattle.trial_laws.proofs.RequestsWait.{AreShortSent}
use Rattle.trial_laws.specs.TypedLogs.{events_of, batches_of, requests_of, events_in}
use Rattle.trial_laws.proofs.KeysShort.{KeysWait}
use Rattle.trial_laws.proofs.RequestsShort.{both_short, IsShortHappening, for_short, typist_waits, setup_short}

-- ---- a log that goes on

-- The state is that of the log. What waits to be sent is what the log asks for beyond what was sent, in messages.
pub record IsOf (first : TrialTypist) (log : List Happening) (sent : List Sent) (s : State TrialTypist) : Type 0 where
  pub typist : s.typist ≡ typist_of meanings_of first log
  pub keys : KeysWait s.typist.typing
  pub waits : List Sent
  pub bytes : s.to_send ≡ spelled waits
  pub all : requests_of first log ≡ sent ++ waits
  pub short : AreShortSent waits

pub happened : (first : TrialTypist) (h : Happening) (log : List Happening) (sent : List Sent) (s : State TrialTypist) →
    IsShortHappening h → IsOf first log sent s → IsOf first (h ∷ log) sent (happens meanings_of h s)
happened first h log sent s k is =
    let more : List Sent = sent_for meanings_of h s.typist in
    record {
      typist = ap (typist_after meanings_of h) is.typist;
      keys = typist_waits h s.typist is.keys;
      waits = is.waits ++ more;
      bytes = ap (λ (b : List ℕ). b ++ spelled more) is.bytes ∙ sym (spelled-append is.waits more);
      all =
          sym (append_assoc method_setup (sends_of meanings_of first log)
          (sent_for meanings_of h (typist_of meanings_of first log)))
          ∙ ap (λ (l : List Sent). l ++ sent_for meanings_of h (typist_of meanings_of first log)) is.all
          ∙ append_assoc sent is.waits (sent_for meanings_of h (typist_of meanings_of first log))
          ∙ ap (λ (t : Typist TrialTypist). sent ++ (is.waits ++ sent_for meanings_of h t)) (sym is.typist);
      short = both_short is.waits more is.short (for_short h s.typist k is.keys);
    }

after_events : (first : TrialTypist) (all : List Event) (log : List Happening) (sent : List Sent)
    (s : State TrialTypist) → IsOf first log sent s →
    IsOf first (log_after all log) sent (after_all (after_event meanings_of) all s)
after_events first [] log sent s is = is
after_events first (event ∷ more) log sent s is =
    after_events first more (came event ∷ log) sent (after_event meanings_of event s)
    (happened first (came event) log sent s tt is)

events_after : (all : List Event) (log : List Happening) → events_of (log_after all log) ≡ events_of log ++ all
events_after [] log = sym (append-nil (events_of log))
events_after (event ∷ more) log =
    events_after more (came event ∷ log) ∙ append_assoc (events_of log) (event ∷ []) more

batches_after : (all : List Event) (log : List Happening) → batches_of (log_after all log) ≡ batches_of log
batches_after [] log = refl
batches_after (event ∷ more) log = batches_after more (came event ∷ log)

after_both : (a b : List Event) (log : List Happening) → log_after (a ++ b) log ≡ log_after b (log_after a log)
after_both [] b log = refl
after_both (event ∷ a) b log = after_both a b (came event ∷ log)

-- ---- messages in turn

-- what is heard in messages, and in more behind them
record HeardAs (now : List Event) (later : List (List ℕ) → List Event) (s : State TrialTypist)
    (h : Heard (State TrialTypist)) : Type 0 where
  state : h.state ≡ after_all (after_event meanings_of) now s
  good : h.is_bad ≡ false → (more : List (List ℕ)) → later more ≡ now ++ events_in more
  bad : h.is_bad ≡ true → (more : List (List ℕ)) → later more ≡ now

abbrev hearing : List (List ℕ) → State TrialTypist → Heard (State TrialTypist)
hearing ms s = heard (after_event meanings_of) method_objects ms s

next_as : (o : Option Event) (ms : List (List ℕ)) (s : State TrialTypist) →
    ((u : State TrialTypist) → HeardAs (events_in ms) (λ more. events_in (ms ++ more)) u (hearing ms u)) →
    HeardAs (then_events o (events_in ms)) (λ more. then_events o (events_in (ms ++ more))) s
    (heard_next (after_event meanings_of) o s (heard (after_event meanings_of) method_objects ms))
next_as None ms s k = record {
  state = refl;
  good = λ e more. (let no : true ≡ false = e in cc);
  bad = λ e more. refl;
}
next_as (Some event) ms s k =
    let h = k (after_event meanings_of event s) in
    record {
      state = h.state;
      good = λ e more. ap (λ (l : List Event). event ∷ l) (h.good e more);
      bad = λ e more. ap (λ (l : List Event). event ∷ l) (h.bad e more);
    }

heard_as : (ms : List (List ℕ)) (s : State TrialTypist) →
    HeardAs (events_in ms) (λ more. events_in (ms ++ more)) s (hearing ms s)
heard_as [] s = record {
  state = refl;
  good = λ e more. refl;
  bad = λ e more. (let no : false ≡ true = e in cc);
}
heard_as (m ∷ ms) s = next_as (event_in method_objects m) ms s (λ u. heard_as ms u)

-- ---- bytes that go on

-- what the client keeps goes on as the bytes do, and so do their events
pub record IsGoing (bytes : List ℕ) (c : Client (State TrialTypist)) : Type 0 where
  on : (more : List ℕ) → messages (bytes ++ more) ≡ messages bytes ++ messages (c.held ++ more)
  spelled : (more : List (List ℕ)) →
      events_in (messages bytes ++ more) ≡ events_in (messages bytes) ++ events_in more

-- ---- the client

-- The client heard these bytes: its log has their events and these batches. Since it was the base, only events came.
pub record HasTyped (first : TrialTypist) (own : List Batch) (base : List Happening) (bytes : List ℕ) (sent : List Sent)
    (c : Client (State TrialTypist)) : Type 0 where
  pub log : List Happening
  pub is : IsOf first log sent c.state
  pub events : events_of log ≡ events_in (messages bytes)
  pub batches : batches_of log ≡ own
  pub came : List Event
  pub since : log ≡ log_after came base
  pub going : c.is_bad ≡ false → IsGoing bytes c
  pub stuck : c.is_bad ≡ true → (piece : List ℕ) → events_in (messages (bytes ++ piece)) ≡ events_in (messages bytes)

abbrev pub hears : List ℕ → Client (State TrialTypist) → Client (State TrialTypist)
hears piece c = received (after_event meanings_of) method_objects piece c

module _ (first : TrialTypist) (own : List Batch) (base : List Happening) (sent : List Sent) (bytes piece : List ℕ)
    (c : Client (State TrialTypist)) where
  hears_bad : c.is_bad ≡ true → HasTyped first own base bytes sent c →
      HasTyped first own base (bytes ++ piece) sent (hears piece c)
  hears_bad e h =
      subst (λ (n : Client (State TrialTypist)). HasTyped first own base (bytes ++ piece) sent n)
      (sym (stays_bad (after_event meanings_of) method_objects c piece e))
      (record {
        log = h.log;
        is = h.is;
        events = h.events ∙ sym (h.stuck e piece);
        batches = h.batches;
        came = h.came;
        since = h.since;
        going = λ f. absurd (let no : true ≡ false = sym e ∙ f in cc);
        stuck = λ f more. ap (λ (b : List ℕ). events_in (messages b)) (append_assoc bytes piece more)
            ∙ h.stuck e (piece ++ more) ∙ sym (h.stuck e piece);
      })

  abbrev kept : List ℕ
  kept = c.held ++ piece

  abbrev all : List Event
  all = events_in (messages kept)

  abbrev now : Heard (State TrialTypist)
  now = hearing (messages kept) c.state

  abbrev stops : Bool
  stops = now.is_bad || has_bad_size (behind kept)

  is_received : c.is_bad ≡ false →
      hears piece c ≡ bytes_heard (after_event meanings_of) method_objects kept c.state
  unfolding received
  is_received e =
      ap (λ (b : Bool). if b then c else bytes_heard (after_event meanings_of) method_objects kept c.state) e

  events_on : IsGoing bytes c → events_in (messages (bytes ++ piece)) ≡ events_in (messages bytes) ++ all
  events_on g = ap events_in (g.on piece) ∙ g.spelled (messages kept)

  -- and behind these messages
  events_then : IsGoing bytes c → (more : List (List ℕ)) →
      events_in (messages (bytes ++ piece) ++ more) ≡ events_in (messages bytes) ++ events_in (messages kept ++ more)
  events_then g more =
      ap (λ (ms : List (List ℕ)). events_in (ms ++ more)) (g.on piece)
      ∙ ap events_in (append_assoc (messages bytes) (messages kept) more) ∙ g.spelled (messages kept ++ more)

  parts : IsGoing bytes c → (more : List ℕ) →
      messages ((bytes ++ piece) ++ more) ≡ messages (bytes ++ piece) ++ messages (behind kept ++ more)
  parts g more =
      ap messages (append_assoc bytes piece more) ∙ g.on (piece ++ more)
      ∙ ap (λ (b : List ℕ). messages bytes ++ messages b) (sym (append_assoc c.held piece more))
      ∙ ap (λ (ms : List (List ℕ)). messages bytes ++ ms) (messages_on kept more)
      ∙ sym (append_assoc (messages bytes) (messages kept) (messages (behind kept ++ more)))
      ∙ ap (λ (ms : List (List ℕ)). ms ++ messages (behind kept ++ more)) (sym (g.on piece))

  none_or : (a b : Bool) → (a || b) ≡ false → a ≡ false
  none_or true b e = cc
  none_or false b e = refl

  still_going : HeardAs all (λ more. events_in (messages kept ++ more)) c.state now → IsGoing bytes c → stops ≡ false →
      IsGoing (bytes ++ piece)
      (record { state = now.state; held = if stops then kept else behind kept; is_bad = stops })
  still_going k g f = record {
    on = λ more.
        parts g more
        ∙ ap (λ (b : Bool). messages (bytes ++ piece) ++ messages ((if b then kept else behind kept) ++ more)) (sym f);
    spelled = λ more.
        events_then g more
        ∙ ap (λ (l : List Event). events_in (messages bytes) ++ l)
        (k.good (none_or now.is_bad (has_bad_size (behind kept)) f) more)
        ∙ sym (append_assoc (events_in (messages bytes)) all (events_in more))
        ∙ ap (λ (l : List Event). l ++ events_in more) (sym (events_on g));
  }

  now_stuck : HeardAs all (λ more. events_in (messages kept ++ more)) c.state now → IsGoing bytes c → stops ≡ true →
      (more : List ℕ) → events_in (messages ((bytes ++ piece) ++ more)) ≡ events_in (messages (bytes ++ piece))
  now_stuck k g f more = by now.is_bad refl f
    where
      by : (b : Bool) → now.is_bad ≡ b → (b || has_bad_size (behind kept)) ≡ true →
          events_in (messages ((bytes ++ piece) ++ more)) ≡ events_in (messages (bytes ++ piece))
      by true e q =
          ap events_in (parts g more) ∙ events_then g (messages (behind kept ++ more))
          ∙ ap (λ (l : List Event). events_in (messages bytes) ++ l) (k.bad e (messages (behind kept ++ more)))
          ∙ sym (events_on g)
      by false e q =
          ap events_in (parts g more
          ∙ ap (λ (ms : List (List ℕ)). messages (bytes ++ piece) ++ ms) (bad_on (behind kept) more q)
          ∙ append-nil (messages (bytes ++ piece)))

  hears_good : c.is_bad ≡ false → HasTyped first own base bytes sent c →
      HasTyped first own base (bytes ++ piece) sent (hears piece c)
  hears_good e h =
      let g = h.going e in
      let k = heard_as (messages kept) c.state in
      subst (λ (n : Client (State TrialTypist)). HasTyped first own base (bytes ++ piece) sent n) (sym (is_received e))
      (record {
        log = log_after all h.log;
        is = subst (λ (s : State TrialTypist). IsOf first (log_after all h.log) sent s) (sym k.state)
            (after_events first all h.log sent c.state h.is);
        events = events_after all h.log ∙ ap (λ (l : List Event). l ++ all) h.events ∙ sym (events_on g);
        batches = batches_after all h.log ∙ h.batches;
        came = h.came ++ all;
        since = ap (log_after all) h.since ∙ sym (after_both h.came all base);
        going = λ f. still_going k g f;
        stuck = λ f more. now_stuck k g f more;
      })

  -- one more piece comes
  pub hears_on : HasTyped first own base bytes sent c → HasTyped first own base (bytes ++ piece) sent (hears piece c)
  hears_on h = by c.is_bad refl
    where
      by : (b : Bool) → c.is_bad ≡ b → HasTyped first own base (bytes ++ piece) sent (hears piece c)
      by true e = hears_bad e h
      by false e = hears_good e h

-- ---- what is sent, and what the user does

-- all that waits is sent, and then nothing waits
pub is_sent : (first : TrialTypist) (own : List Batch) (base : List Happening) (bytes : List ℕ) (sent : List Sent)
    (c : Client (State TrialTypist)) (h : HasTyped first own base bytes sent c) →
    (k : HasTyped first own base bytes (sent ++ h.is.waits) (record c { state = record c.state { to_send = [] } }))
    × (k.is.waits ≡ []) × (k.log ≡ h.log)
is_sent first own base bytes sent c h = (
  record {
    log = h.log;
    is = record {
      typist = h.is.typist;
      keys = h.is.keys;
      waits = [];
      bytes = refl;
      all = h.is.all ∙ sym (append-nil (sent ++ h.is.waits));
      short = tt;
    };
    events = h.events;
    batches = h.batches;
    came = h.came;
    since = h.since;
    going = λ e. (let g = h.going e in record { on = g.on; spelled = g.spelled });
    stuck = h.stuck;
  },
  refl,
  refl,
)

-- from here on
pub from_here : (first : TrialTypist) (own : List Batch) (base : List Happening) (bytes : List ℕ) (sent : List Sent)
    (c : Client (State TrialTypist)) (h : HasTyped first own base bytes sent c) →
    (k : HasTyped first own h.log bytes sent c) × (k.is.waits ≡ h.is.waits)
from_here first own base bytes sent c h = (
  record {
    log = h.log;
    is = h.is;
    events = h.events;
    batches = h.batches;
    came = [];
    since = refl;
    going = h.going;
    stuck = h.stuck;
  },
  refl,
)

-- the method's user commits edits
pub is_committed : (first : TrialTypist) (own : List Batch) (base : List Happening) (bytes : List ℕ) (sent : List Sent)
    (edits : Batch) (c : Client (State TrialTypist)) → IsShortHappening (committed edits) →
    (h : HasTyped first own base bytes sent c) →
    HasTyped first (own ++ edits ∷ []) (committed edits ∷ h.log) bytes sent
    (record c { state = happens meanings_of (committed edits) c.state })
is_committed first own base bytes sent edits c k h = record {
  log = committed edits ∷ h.log;
  is = happened first (committed edits) h.log sent c.state k h.is;
  events = h.events;
  batches = ap (λ (l : List Batch). l ++ edits ∷ []) h.batches;
  came = [];
  since = refl;
  going = λ e. (let g = h.going e in record { on = g.on; spelled = g.spelled });
  stuck = h.stuck;
}

-- a new client took nothing, and has its set-up to send
pub is_new : (first : TrialTypist) → KeysWait first →
    (k : HasTyped first [] [] [] [] (record { state = new_state first; held = []; is_bad = false })) × (k.log ≡ [])
unfolding messages
is_new first keys = (
  record {
    log = [];
    is = record {
      typist = refl;
      keys = keys;
      waits = method_setup;
      bytes = refl;
      all = append-nil method_setup;
      short = setup_short;
    };
    events = refl;
    batches = refl;
    came = [];
    since = refl;
    going = λ e. record { on = λ more. refl; spelled = λ more. refl };
    stuck = λ e. absurd (let no : false ≡ true = e in cc);
  },
  refl,
)
