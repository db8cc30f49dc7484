-- The stamps after calls are those for what the calls gave.
use Rattle.std.proofs.Common.{◌≡◌, ℕ, zero, suc, List, [], ◌∷◌, true, false, Option, Some, None, refl, sym, ap, ◌∙◌}
use Rattle.broker_steps.specs.declared.limits.Limits.{Limits}
use Rattle.broker_steps.specs.declared.stamp.Stamp.{Stamp}
use Rattle.broker_model.specs.declared.journal.Entry.{Entry}
use Rattle.broker_model.specs.declared.journal.Entry.TheVariants as entries
use Rattle.broker_model.specs.Settle.{refused, due, cause_of, with_end, settled, settle, number_alive}
use Rattle.broker_model.specs.Stamps.{follows, stamp_of, no_stamp, stamps, step_stamps}
use Rattle.broker_model.proofs.StampsAgain.{step_stamped, end_stamped, again}
use Rattle.broker_core.specs.Broker.{Broker, with_step, letting_go}
use Rattle.broker_core.specs.Calls.{Call, after_calls, given_by, IsOfCalls, CallLaw}
use Rattle.broker_core.specs.Calls.Call.{Put, LettingGo}
use Rattle.broker_core.proofs.FirstDueIsSettled.{cause_follows}

-- the stamps of the ends that follow stand on those before them alone

end_same : (journal : List Entry) (o : Option ℕ) (a b : List Stamp) → stamps journal a ≡ stamps journal b →
    stamps (with_end journal o) a ≡ stamps (with_end journal o) b
end_same journal None a b h = h
end_same journal (Some q) a b h =
    let e : Entry = entries.End q (cause_of journal q) in
    let f : follows e ≡ true = cause_follows q (refused journal q) in
    end_stamped e journal no_stamp a f
    ∙ ap (λ (before : List Stamp). stamp_of e no_stamp before ∷ before) h
    ∙ sym (end_stamped e journal no_stamp b f)

settled_same : (capacity n : ℕ) (journal : List Entry) (a b : List Stamp) → stamps journal a ≡ stamps journal b →
    stamps (settled capacity n journal) a ≡ stamps (settled capacity n journal) b
settled_same capacity zero journal a b h = h
settled_same capacity (suc n) journal a b h =
    settled_same capacity n (with_end journal (due capacity journal)) a b
    (end_same journal (due capacity journal) a b h)

-- so do those after a step
pub step_same : (capacity : ℕ) (e : Entry) (journal : List Entry) (given : Stamp) (a b : List Stamp) →
    follows e ≡ false →
    stamps journal a ≡ stamps journal b →
    stamps (settle capacity (e ∷ journal)) (given ∷ a) ≡ stamps (settle capacity (e ∷ journal)) (given ∷ b)
step_same capacity e journal given a b f h =
    settled_same capacity (number_alive (e ∷ journal)) (e ∷ journal) (given ∷ a) (given ∷ b)
    (step_stamped e journal given a f ∙ ap (λ (before : List Stamp). stamp_of e given before ∷ before) h
    ∙ sym (step_stamped e journal given b f))

-- what the steps before have stands for what was given with them
pub step_given : (capacity : ℕ) (e : Entry) (journal : List Entry) (given : Stamp) (gave now : List Stamp) →
    follows e ≡ false →
    stamps journal gave ≡ now →
    stamps (settle capacity (e ∷ journal)) (given ∷ gave)
    ≡ stamps (settle capacity (e ∷ journal)) (given ∷ step_stamps journal now)
step_given capacity e journal given gave now f h =
    step_same capacity e journal given gave (step_stamps journal now) f
    (sym (again journal gave) ∙ ap (λ (ss : List Stamp). stamps journal (step_stamps journal ss)) h)

one_more : (limits : Limits) (step : Entry) (given : Stamp) (older : List Call) (b : Broker) →
    follows step ≡ false → IsOfCalls limits older b →
    IsOfCalls limits (Put step given ∷ older) (with_step step given b)
one_more limits step given older b f is =
    record {
      allowed = is.allowed;
      steps =
          ap (λ (allowed : Limits). settle allowed.store (step ∷ b.journal)) is.allowed
          ∙ ap (λ (journal : List Entry). settle limits.store (step ∷ journal)) is.steps;
      stamped = sym (step_given b.limits.store step b.journal given (given_by older) b.stamps f (sym is.stamped));
    }

-- to let entries go changes neither
fewer_kept : (limits : Limits) (number : ℕ) (older : List Call) (b : Broker) → IsOfCalls limits older b →
    IsOfCalls limits (LettingGo number ∷ older) (letting_go number b)
fewer_kept limits number older b is = record { allowed = is.allowed; steps = is.steps; stamped = is.stamped }

pub call_law : CallLaw
call_law limits [] a = record { allowed = refl; steps = refl; stamped = refl }
call_law limits (Put step given ∷ older) a =
    one_more limits step given older (after_calls limits older) a.0 (call_law limits older a.1)
call_law limits (LettingGo number ∷ older) a =
    fewer_kept limits number older (after_calls limits older) (call_law limits older a.1)
