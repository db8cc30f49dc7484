-- What holds of what is said of batches.
use Rattle.std.specs.Prelude.{◌≡◌, ◌↔◌, ◌==◌, ◌++◌, ℕ, List, [], ◌∷◌, true, false, Option, Some, if◌then◌else◌}
use Rattle.relay_model.specs.declared.act.Act.TheVariants.{MCommit}
use Rattle.relay_model.specs.declared.said.Said.{Said}
use Rattle.relay_model.specs.declared.act.Act.{Act}
use Rattle.relay_model.specs.Batch.{batch, group}
use Rattle.relay_model.specs.Idle.{history}
use Rattle.relay_reasons.specs.declared.fate.Reason.{Reason}
use Rattle.relay_reasons.specs.Fate.{reason_holds}
use Rattle.relay_reasons.specs.Laws.{IsRelayed}
use Rattle.lines_explained.specs.declared.outcome.Outcome.{Outcome}
use Rattle.lines_explained.specs.declared.outcome.Outcome.TheVariants.{Queued, ReachedNobody}
use Rattle.lines_explained.specs.declared.outcome.WhyNobody.TheVariants.{Unrelayed, NoRoom}
use Rattle.broker_model.specs.declared.journal.Entry.{Entry}
use Rattle.broker_model.specs.Resolve.{resolve}
use Rattle.broker_model.specs.Out.{act_at}
use Rattle.broker_model.specs.Queued.{is_put, queued}
use Rattle.lines_explained.specs.Journals.{was_put, outcome_at}

-- the entry commits a batch of the method m with the serial
abbrev pub Commits : Entry → List Entry → (m serial : ℕ) → Type 0
Commits e older m serial = act_at e older ≡ MCommit m serial

-- a reason is given exactly where its condition holds
abbrev pub ReasonsGiven : Type 0
ReasonsGiven =
    (capacity : ℕ) (e : Entry) (older : List Entry) (m serial : ℕ) (why : Reason) →
    Commits e older m serial →
    (outcome_at capacity e older ≡ Some (ReachedNobody (Unrelayed why)))
    ↔ (reason_holds why (history (resolve older)) m serial ≡ true)

-- none is given exactly where the batch was relayed, and its group was put
abbrev pub QueuedRelayed : Type 0
QueuedRelayed =
    (capacity : ℕ) (e : Entry) (older : List Entry) (m serial f count : ℕ) →
    Commits e older m serial →
    (outcome_at capacity e older ≡ Some (Queued f count))
    ↔ (IsRelayed (history (resolve older)) m serial f count × (was_put capacity e older ≡ true))

-- want of room is given exactly where it was relayed, and no group was put
abbrev pub NoRoomGiven : Type 0
NoRoomGiven =
    (capacity : ℕ) (e : Entry) (older : List Entry) (m serial : ℕ) →
    Commits e older m serial →
    (outcome_at capacity e older ≡ Some (ReachedNobody NoRoom))
    ↔ ((f : ℕ) × (count : ℕ) × IsRelayed (history (resolve older)) m serial f count
    × (was_put capacity e older ≡ false))

-- of a relayed batch a group was put exactly where the one of its own field was
abbrev pub PutIsOwn : Type 0
PutIsOwn =
    (capacity : ℕ) (e : Entry) (older : List Entry) (m serial f count : ℕ) →
    Commits e older m serial → IsRelayed (history (resolve older)) m serial f count →
    (was_put capacity e older ≡ true) ↔ (is_put capacity e older f ≡ true)

-- what is queued for the field f by a batch of the method m after these acts of which that is said
abbrev pub queued_by : Option Outcome → List Act → (m f : ℕ) → List (List Said)
queued_by (Some (Queued g count)) log m f =
    (if g == f then group (batch log m) count ∷ [] else [])
queued_by _ log m f = []

-- so what is queued for each field grows exactly by the batches that are said to be queued for it
abbrev pub SaidIsQueued : Type 0
SaidIsQueued =
    (capacity : ℕ) (e : Entry) (older : List Entry) (m serial f : ℕ) →
    Commits e older m serial →
    queued capacity (e ∷ older) f
    ≡ queued capacity older f
    ++ queued_by (outcome_at capacity e older) (history (resolve older)) m f
