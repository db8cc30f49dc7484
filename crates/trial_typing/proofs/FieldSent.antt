-- What a field's log sends is what was submitted, and what waits
use Rattle.std.proofs.Common.{◌≡◌, ℕ, List, [], ◌∷◌, ◌++◌, refl, sym, ap, subst, ◌∙◌, append_assoc, append-nil}
use Rattle.std.proofs.lemmas.List.{append_cancel_left}
use Rattle.wl_proto.specs.declared.event.Event.{Event}
use Rattle.wl_proto.specs.declared.event.Event.TheVariants as events
use Rattle.trial_field.specs.Log.{Batch}
use Rattle.client_side.specs.Client.{after_all}
use Rattle.client_side.specs.FieldLog.{sent_for, field_of, sends_of}
use Rattle.client_side.specs.FieldState.{State, after_event, logged, log_after, HasLog}
use Rattle.client_side.specs.Happenings.{Happening, batch, entered, left}
use Rattle.client_side.specs.Messages.{Sent, spelled, field_setup}
use Rattle.client_side.proofs.LogGoesOn.{one_more_happened}
use Rattle.client_side.proofs.SpelledInTurn.{spelled-append}
use Rattle.trial_typing.specs.FieldAsked.{IsSent}
use Rattle.trial_typing.proofs.RequestsWhole.{AreShort, short-append, sends_short, setup_short}

-- the bytes to send are what waits
pub waits_is : (s : State) (log : List Happening) (sents waits : List Sent) → IsSent s log sents waits →
    s.to_send ≡ spelled waits
waits_is s log sents waits h =
    append_cancel_left (spelled sents) s.to_send (spelled waits)
    (h.has.bytes ∙ sym (spelled-append field_setup (sends_of log)) ∙ ap spelled h.all ∙ spelled-append sents waits)

-- once they were sent nothing waits
pub sent_all : (s : State) (log : List Happening) (sents waits : List Sent) → IsSent s log sents waits →
    IsSent (record s { to_send = [] }) log (sents ++ waits) []
sent_all s log sents waits h = record {
  all = h.all ∙ sym (append-nil (sents ++ waits));
  has = record {
    field = h.has.field;
    text = h.has.text;
    bytes = append-nil (spelled (sents ++ waits)) ∙ ap spelled (sym h.all) ∙ spelled-append field_setup (sends_of log);
  };
}

-- ---- a log that goes on

pub record Longer (log after : List Happening) : Type 0 where
  pub more : List Happening
  pub is : after ≡ more ++ log

logged_more : (event : Event) (waiting : Batch) (log : List Happening) →
    logged event waiting log ≡ logged event waiting [] ++ log
logged_more (events.Enter surface) waiting log = refl
logged_more (events.Leave surface) waiting log = refl
logged_more (events.TextInputDone serial) waiting log = refl
logged_more _ waiting log = refl

pub after_more : (all : List Event) (s : State) (log : List Happening) → Longer log (log_after all s log)
after_more [] s log = record { more = []; is = refl }
after_more (event ∷ all) s log =
    let k = after_more all (after_event event s) (logged event s.pending log) in record {
      more = k.more ++ logged event s.pending [];
      is = k.is ∙ ap (λ (l : List Happening). k.more ++ l) (logged_more event s.pending log)
          ∙ sym (append_assoc k.more (logged event s.pending []) log);
    }

-- what a longer log sends goes on
pub record SendsMore (log after : List Happening) : Type 0 where
  pub more : List Sent
  pub is : sends_of after ≡ sends_of log ++ more

sends_by : (more log : List Happening) → SendsMore log (more ++ log)
sends_by [] log = record { more = []; is = sym (append-nil (sends_of log)) }
sends_by (h ∷ more) log =
    let k = sends_by more log in
    let last : List Sent = sent_for h (field_of (more ++ log)) in record {
      more = k.more ++ last;
      is = ap (λ (l : List Sent). l ++ last) k.is ∙ append_assoc (sends_of log) k.more last;
    }

pub sends_on : (log after : List Happening) → Longer log after → SendsMore log after
sends_on log after l = subst (λ (x : List Happening). SendsMore log x) (sym l.is) (sends_by l.more log)

pub sent_on : (s new : State) (log after : List Happening) (sents waits : List Sent) → IsSent s log sents waits →
    Longer log after → HasLog after (spelled sents) new → (more : List Sent) × IsSent new after sents (waits ++ more)
sent_on s new log after sents waits h l has =
    let k = sends_on log after l in (
      k.more,
      record {
        all = ap (λ (x : List Sent). field_setup ++ x) k.is
            ∙ sym (append_assoc field_setup (sends_of log) k.more)
            ∙ ap (λ (x : List Sent). x ++ k.more) h.all ∙ append_assoc sents waits k.more;
        has = has;
      },
    )

-- the client's log goes on by events

has_one : (event : Event) (log : List Happening) (sent : List ℕ) (s : State) → HasLog log sent s →
    HasLog (logged event s.pending log) sent (after_event event s)
has_one (events.Enter surface) log sent s has = one_more_happened entered log sent s has
has_one (events.Leave surface) log sent s has = one_more_happened left log sent s has
has_one (events.TextInputDone serial) log sent s has =
    let h = one_more_happened (batch s.pending serial) log sent s has in
    record { field = h.field; text = h.text; bytes = h.bytes }
has_one (events.PreeditString t begin end) log sent s has = record
    { field = has.field; text = has.text; bytes = has.bytes }
has_one (events.CommitString t) log sent s has = record { field = has.field; text = has.text; bytes = has.bytes }
has_one (events.DeleteSurroundingText before behind) log sent s has = record
    { field = has.field; text = has.text; bytes = has.bytes }
has_one _ log sent s has = has

has_after : (all : List Event) (log : List Happening) (sent : List ℕ) (s : State) → HasLog log sent s →
    HasLog (log_after all s log) sent (after_all after_event all s)
has_after [] log sent s has = has
has_after (event ∷ more) log sent s has =
    has_after more (logged event s.pending log) sent (after_event event s) (has_one event log sent s has)

-- events came
pub events_on : (s new : State) (all : List Event) (log after : List Happening) (sents waits : List Sent) →
    IsSent s log sents waits → new ≡ after_all after_event all s → log_after all s log ≡ after →
    (more : List Sent) × IsSent new after sents (waits ++ more)
events_on s new all log after sents waits h is to =
    let l = after_more all s log in
    let has = subst (λ (n : State). HasLog (log_after all s log) (spelled sents) n) (sym is)
    (has_after all log (spelled sents) s h.has) in
    sent_on s new log after sents waits h (record { more = l.more; is = sym to ∙ l.is })
    (subst (λ (x : List Happening). HasLog x (spelled sents) new) to has)

-- ---- they are short

short-front : (a b : List Sent) → AreShort (a ++ b) → AreShort a
short-front [] b h = tt
short-front (s ∷ a) b h = (h.0, short-front a b h.1)

pub sents_short : (s : State) (log : List Happening) (sents waits : List Sent) → IsSent s log sents waits →
    AreShort sents
sents_short s log sents waits h =
    short-front sents waits
    (subst AreShort h.all (short-append field_setup (sends_of log) setup_short (sends_short log)))
