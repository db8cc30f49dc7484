-- What the method's client heard is a front of what was put for its peer, and after an action all of it.
use Rattle.std.proofs.Common.{◌≡◌, ℕ, true, false, not, List, [], ◌∷◌, ◌++◌, length, take, drop, Option, Some, None, refl, sym, ap, subst, ◌∙◌}
use Rattle.std.proofs.lemmas.List.{take-append-drop}
use Rattle.std.proofs.lemmas.Bool.{and_parts}
use Rattle.broker_steps.specs.declared.limits.Limits.{Limits}
use Rattle.wl_wire.specs.Messages.{messages}
use Rattle.wl_proto.specs.declared.event.Event.{Event}
use Rattle.client_side.specs.Events.{method_objects}
use Rattle.broker_model.specs.Out.{out_for}
use Rattle.trial_run.specs.declared.whose.Whose.TheVariants as whose
use Rattle.trial_run.specs.Hearing.{event_in, behind}
use Rattle.trial_run.specs.Ran.{Ran}
use Rattle.trial_run.specs.Steps.{has_stored}
use Rattle.trial_run.specs.Play.{TrialPlay}
use Rattle.trial_run.specs.Rounds.{is_due, fields_quiet, is_quiet}
use Rattle.trial_laws.specs.FieldLogs.{then_events, bytes_taken}
use Rattle.trial_laws.specs.RelayedBatches.{IsFrontOf}
use Rattle.trial_laws.proofs.HeardInPieces.{messages_on}
use Rattle.trial_laws.proofs.RoundsEnd.{rounds_end_quiet}
use Rattle.trial_laws.proofs.TextsFolded.{limits_same}
use Rattle.trial_laws.proofs.UnpausedHearAll.{not_is, all_taken}
use Rattle.trial_laws.specs.TypedLogs.{events_in}
use Rattle.trial_laws.specs.MethodLaws.{MethodHearsAFront, MethodHearsAll}

-- ---- a front

-- what stands at the front of messages is heard at the front
front_heard : (ms more : List (List ℕ)) → IsFrontOf (events_in ms) (events_in (ms ++ more))
front_heard [] more = record { rest = events_in more; is = refl }
front_heard (m ∷ ms) more = next (event_in method_objects m) (front_heard ms more)
  where
    next : (o : Option Event) → IsFrontOf (events_in ms) (events_in (ms ++ more)) →
        IsFrontOf (then_events o (events_in ms)) (then_events o (events_in (ms ++ more)))
    next None f = record { rest = []; is = refl }
    next (Some event) f = record { rest = f.rest; is = ap (λ (l : List Event). event ∷ l) f.is }

-- and so is what the front of bytes spells
pub taken_heard : (n : ℕ) (put : List ℕ) → IsFrontOf (events_in (messages (take n put))) (events_in (messages put))
taken_heard n put =
    let all : messages put ≡ messages (take n put) ++ messages (behind (take n put) ++ drop n put) =
    ap messages (sym (take-append-drop n put)) ∙ messages_on (take n put) (drop n put) in
    subst (λ (ms : List (List ℕ)). IsFrontOf (events_in (messages (take n put))) (events_in ms)) (sym all)
    (front_heard (messages (take n put)) (messages (behind (take n put) ++ drop n put)))

pub method_hears_a_front : MethodHearsAFront
method_hears_a_front limits script t logged =
    let out = out_for limits.store t.broker.journal logged.peer.label in
    subst (λ (l : List Event). IsFrontOf l (events_in (messages out.put.bytes))) (sym logged.heard)
    (taken_heard out.taken out.put.bytes)

-- ---- all of it

none_stored : (t : TrialPlay) → is_due whose.Method t ≡ false → has_stored 1 t.broker ≡ false
unfolding is_due
none_stored t due = due

pub method_hears_all : MethodHearsAll
unfolding is_quiet
method_hears_all limits script first more t a some e logged =
    let quiet : is_quiet t ≡ true = rounds_end_quiet limits script first more t a some e in
    let due : is_due whose.Method t ≡ false =
    not_is (is_due whose.Method t)
    (and_parts (not (is_due whose.Method t)) (fields_quiet (length t.fields) 0 t) quiet).0 in
    let limited : t.broker.limits ≡ limits =
    subst (λ (r : Ran TrialPlay). r.now.broker.limits ≡ limits) e (limits_same limits script) in
    let all : bytes_taken limits.store t.broker.journal logged.peer.label
    ≡ (out_for limits.store t.broker.journal logged.peer.label).put.bytes =
    subst (λ (l : Limits). bytes_taken l.store t.broker.journal logged.peer.label
    ≡ (out_for l.store t.broker.journal logged.peer.label).put.bytes) limited
    (all_taken t 1 logged.peer logged.joined (none_stored t due)) in
    logged.heard ∙ ap (λ (b : List ℕ). events_in (messages b)) all
