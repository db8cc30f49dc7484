-- What a pass has seen of the one journal
use Rattle.std.proofs.Common.{◌≡◌, ℕ, List, [], ◌∷◌, ◌++◌, ap, ◌∙◌}
use Rattle.std.specs.List.{AllByRecursion}
use Rattle.broker_steps.specs.declared.limits.Limits.{Limits}
use Rattle.broker_model.specs.declared.journal.Entry.{Entry}
use Rattle.broker_model.specs.Settle.{history}
use Rattle.hub_lock.specs.declared.step.OuterStep.{OuterStep}
use Rattle.hub_lock.specs.Histories.{History, entries_of}
use Rattle.hub_calls.specs.Made.{journal_of}
use Rattle.hub_calls.proofs.OthersTakeNothing.{entries-append}
use Rattle.trial_job_laws.proofs.FieldAll.{newer_steps, entries_each}

each_unit : (h : History) → AllByRecursion (λ (x : ℕ × OuterStep). Unit {0}) h
each_unit [] = tt
each_unit (x ∷ h) = (tt, each_unit h)

-- the journal of a history is that of its front with newer entries
pub newer_front : (limits : Limits) (h front more : History) → h ≡ front ++ more →
    (newer : List Entry) × (journal_of limits h ≡ newer ++ journal_of limits front)
newer_front limits h front more is =
    let k = newer_steps (λ (e : Entry). Unit {0}) (λ q cause. tt) limits.store (entries_of more) (entries_of front)
    (entries_each (λ (e : Entry). Unit {0}) more (each_unit more)) in
    (k.newer, ap (journal_of limits) is ∙ ap (history limits.store) (entries-append front more) ∙ k.is)
