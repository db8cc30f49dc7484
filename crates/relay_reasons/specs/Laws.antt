-- What holds of what batches come to.
use Rattle.std.specs.Prelude.{◌≡◌, ℕ, List, [], ◌∷◌, ◌++◌, true, ◌==◌, ◌↔◌, if◌then◌else◌, Some, is_some}
use Rattle.relay_model.specs.declared.act.Act.{Act}
use Rattle.relay_model.specs.declared.act.Act.TheVariants.{MCommit}
use Rattle.relay_model.specs.declared.said.Said.{Said}
use Rattle.relay_model.specs.Hold.{holder}
use Rattle.relay_model.specs.Activation.{serving, begun, fresh}
use Rattle.relay_model.specs.Batch.{batch, group, commit_count, relayed}
use Rattle.relay_model.specs.Idle.{history}
use Rattle.relay_reasons.specs.declared.fate.Reason.{Reason}
use Rattle.relay_reasons.specs.declared.fate.BatchFate.{BatchFate}
use Rattle.relay_reasons.specs.declared.fate.BatchFate.TheVariants.{Relayed, Unrelayed}
use Rattle.relay_reasons.specs.Fate.{fate, reason_holds}

-- while a method serves, an activation stands exactly while a field holds the seat
abbrev pub ActivationLaw : Type 0
ActivationLaw =
    (acts : List Act) → is_some (serving (history acts)) ≡ true →
    is_some (begun (history acts)) ≡ is_some (holder (history acts))

-- a reason is given exactly where its condition holds
abbrev pub ReasonsHold : Type 0
ReasonsHold =
    (acts : List Act) (m serial : ℕ) (why : Reason) →
    (fate (history acts) m serial ≡ Unrelayed why) ↔
    (reason_holds why (history acts) m serial ≡ true)

-- the batch is relayed to f with that count
pub record IsRelayed (log : List Act) (m serial f count : ℕ) : Type 0 where
  pub fresh : fresh (MCommit m serial) log ≡ true
  pub holds : holder log ≡ Some f
  pub counts : count ≡ commit_count log f

-- none is given exactly where the batch is fresh, and goes to the holder with its count
abbrev pub RelayedFresh : Type 0
RelayedFresh =
    (acts : List Act) (m serial f count : ℕ) →
    (fate (history acts) m serial ≡ Relayed f count) ↔ IsRelayed (history acts) m serial f count

-- what a batch adds to what is relayed to the field f
abbrev pub added : BatchFate → List Act → ℕ → ℕ → List (List Said)
added (Relayed g count) log m f = (if g == f then group (batch log m) count ∷ [] else [])
added (Unrelayed why) log m f = []

-- so the lists that are relayed grow exactly by the batches that are said to be
abbrev pub BatchesRelayed : Type 0
BatchesRelayed =
    (acts : List Act) (m serial f : ℕ) →
    relayed (MCommit m serial ∷ history acts) f
    ≡ relayed (history acts) f ++ added (fate (history acts) m serial) (history acts) m f
