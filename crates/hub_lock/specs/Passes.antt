-- What contracts see of a hub's passes
use Rattle.std.specs.Prelude.{◌≡◌, ℕ, List, [], ◌∷◌, length, Option, Some, None}
use Rattle.atomic_table.specs.Seated.{TableId}
use Rattle.broker_steps.specs.declared.limits.Limits.{Limits}
use Rattle.broker_model.specs.declared.journal.Entry.{Entry}
use Rattle.broker_core.specs.declared.letting_go.LetGo.{LetGo}
use Rattle.turn_lock.specs.Pairs.{own, total}
use Rattle.hub_lock.specs.Histories.{History, broker_of, bytes_taken, total_taken}
use Rattle.hub_lock.specs.Lawful.{IsLawful}

-- a pass as a seat of the lock: the hub that it is of, its number, the hub's limits and the history
-- that it has seen; of the root besides: the number that the next pass gets, how many passes are
-- out, the numbers of those that came back, and the number of the pass that it named to record, if
-- it named one
pub record PassSeat : Type 0 where
  pub turn : TableId
  pub number : ℕ
  pub constant : Option Limits
  pub seen : History
  pub next : ℕ
  pub out : ℕ
  pub taken : List ℕ
  pub named : Option ℕ

-- which hub it is: its lock, and its limits
pub record HubId : Type 0 where
  pub turn : TableId
  pub limits : Limits

-- the pass was made by the hub
abbrev pub IsOf : HubId → PassSeat → Type 0
IsOf hub s = (s.turn ≡ hub.turn) × (s.constant ≡ Some hub.limits)

-- a reader's or a writer's pass, with the number of its peer
pub record PeerPass : Type 0 where
  pub seat : PassSeat
  pub peer : ℕ

-- a recorder's pass, with what was handed out to it, the newest first
pub record Recorder : Type 0 where
  pub seat : PassSeat
  pub handed : List LetGo

-- the journal of the history that was seen, where the limits are those
abbrev pub journal_with : Option Limits → History → List Entry
journal_with None h = []
journal_with (Some limits) h = (broker_of limits h).journal

abbrev pub journal_seen : PassSeat → List Entry
journal_seen s = journal_with s.constant s.seen

-- how many steps a pass's calls made, and how many bytes they took
abbrev pub steps_of : PassSeat → ℕ
steps_of s = length (own s.number s.seen)

abbrev pub bytes_of : PassSeat → ℕ
bytes_of s = bytes_taken (own s.number s.seen)

-- the same of the root, with those of all passes that came back
abbrev pub total_steps : PassSeat → ℕ
total_steps s = total (0 ∷ s.taken) s.seen

abbrev pub total_bytes : PassSeat → ℕ
total_bytes s = total_taken (0 ∷ s.taken) s.seen

-- what was seen is lawful
abbrev pub HasSeenLawful : PassSeat → Type 0
HasSeenLawful s = (limits : Limits) → s.constant ≡ Some limits → IsLawful limits s.seen
