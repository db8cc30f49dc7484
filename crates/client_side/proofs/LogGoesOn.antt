-- A client's log goes on with what happens.
use Rattle.std.proofs.Common.{◌≡◌, ℕ, List, [], ◌∷◌, ◌++◌, sym, ◌∙◌, ap, subst}
use Rattle.std.proofs.lemmas.List.{append_assoc}
use Rattle.wl_proto.specs.declared.event.Event.{Event}
use Rattle.wl_proto.specs.declared.event.Event.TheVariants as events
use Rattle.trial_field.specs.Log.{Batch, no_edits}
use Rattle.client_side.specs.Messages.{spelled, field_setup}
use Rattle.client_side.specs.Happenings.{Happening, batch, entered, left}
use Rattle.client_side.specs.FieldLog.{field_after, text_after, sent_for, field_of, sends_of}
use Rattle.client_side.specs.Client.{after_all}
use Rattle.client_side.proofs.SpelledInTurn.{spelled-append}
use Rattle.client_side.specs.FieldState.{State, happens, after_event, logged, log_after, HasLog, GoesOn}

-- one thing more happened
pub one_more_happened : (h : Happening) (log : List Happening) (sent : List ℕ) (s : State) → HasLog log sent s
    → HasLog (h ∷ log) sent (happens h s)
one_more_happened h log sent s has =
    let more : sent_for h s.field ≡ sent_for h (field_of log) = ap (sent_for h) has.field in
    record {
      field = ap (field_after h) has.field;
      text = ap (text_after h) has.text;
      bytes =
          sym (append_assoc sent s.to_send (spelled (sent_for h s.field)))
          ∙ ap (λ b. b ++ spelled (sent_for h s.field)) has.bytes
          ∙ ap (λ m. (spelled field_setup ++ spelled (sends_of log)) ++ spelled m) more
          ∙ append_assoc (spelled field_setup) (spelled (sends_of log)) (spelled (sent_for h (field_of log)))
          ∙ ap (λ b. spelled field_setup ++ b) (sym (spelled-append (sends_of log) (sent_for h (field_of log))));
    }

-- what waits for its done is no part of the log
same_but_pending : (log : List Happening) (sent : List ℕ) (s : State) (pending : Batch) → HasLog log sent s
    → HasLog log sent (record s { pending = pending })
same_but_pending log sent s pending has = record { field = has.field; text = has.text; bytes = has.bytes }

-- one event more came
pub one_event : (event : Event) (log : List Happening) (sent : List ℕ) (s : State) → HasLog log sent s
    → HasLog (logged event s.pending log) sent (after_event event s)
one_event (events.Enter surface) log sent s has = one_more_happened entered log sent s has
one_event (events.Leave surface) log sent s has = one_more_happened left log sent s has
one_event (events.TextInputDone serial) log sent s has =
    same_but_pending _ sent (happens (batch s.pending serial) s) no_edits
    (one_more_happened (batch s.pending serial) log sent s has)
one_event (events.PreeditString t begin end) log sent s has = same_but_pending log sent s _ has
one_event (events.CommitString t) log sent s has = same_but_pending log sent s _ has
one_event (events.DeleteSurroundingText before behind) log sent s has = same_but_pending log sent s _ has
one_event _ log sent s has = has

-- however many came
pub all_events : (events : List Event) (log : List Happening) (sent : List ℕ) (s : State) → HasLog log sent s
    → HasLog (log_after events s log) sent (after_all after_event events s)
all_events [] log sent s has = has
all_events (event ∷ more) log sent s has =
    all_events more (logged event s.pending log) sent (after_event event s) (one_event event log sent s has)

-- whatever events came
pub goes_on : (old new : State) (events : List Event) (log : List Happening) (sent : List ℕ)
    → new ≡ after_all after_event events old
    → HasLog log sent old → GoesOn old new log sent
goes_on old new events log sent is has =
    let then = all_events events log sent old has in
    let at-new = subst (λ s. HasLog (log_after events old log) sent s) (sym is) then in
    record { events = events; state-is = is; has = at-new }
