-- What holds of the value behind the lock whenever the lock is free
use Rattle.std.specs.Prelude.{◌≡◌, ℕ, ◌+◌, ◌≤◌, List, [], ◌∷◌, length, true, false, Option, Some}
use Rattle.std.specs.List.{count_by}
use Rattle.relay_model.specs.declared.act.EndCause.TheVariants.{Gone}
use Rattle.relay_model.specs.Objects.{is_peer}
use Rattle.relay_model.specs.Keys.{number_down}
use Rattle.broker_steps.specs.declared.limits.Limits.{Limits}
use Rattle.broker_steps.specs.Ranges.{IsLimits}
use Rattle.broker_model.specs.declared.journal.Entry.{Entry}
use Rattle.broker_model.specs.declared.journal.Entry.TheVariants as entries
use Rattle.broker_model.specs.Ids.{Joined, log_of, peer_at, number_live}
use Rattle.broker_model.specs.Resolve.{past_of}
use Rattle.broker_model.specs.Out.{out_for, stored}
use Rattle.broker_model.specs.Settle.{history, outer, is_due, number_alive}
use Rattle.broker_model.specs.Stamps.{stamps, step_stamps}
use Rattle.broker_model.specs.Limits.{number_counted, weight}
use Rattle.broker_core.specs.Broker.{Broker}
use Rattle.broker_core.specs.Ends.{is_end_of}
use Rattle.hub_lock.specs.Histories.{History, broker_of, readers_of, reader_of, writer_of, steps_in}
use Rattle.hub_lock.specs.Steps.{HasLegalSteps}

-- What a shared state promises between calls: its journal is the history of its outer steps, with
-- their stamps; no live peer has a refused last message or was left out of what it is told; and all
-- is within its limits.
pub record IsShared (b : Broker) : Type 0 where
  pub history : history b.limits.store (outer b.journal) ≡ b.journal
  pub stamped : stamps b.journal (step_stamps b.journal b.stamps) ≡ b.stamps
  pub each : length b.stamps ≡ length b.journal
  pub nobody_is_due : (q : ℕ) (peer : Joined) → peer_at (past_of b.journal) q ≡ Some peer
      → is_due b.limits.store b.journal q peer ≡ false
  pub few_peers : number_alive b.journal ≤ 64
  pub counted : number_counted b.journal ≤ b.limits.entries
  pub light : weight b.journal ≤ b.limits.weight
  pub stores : (label : ℕ) →
      length (stored (out_for b.limits.store b.journal label)) ≤ b.limits.store
  pub few_objects : (q : ℕ) (peer : Joined) → peer_at (past_of b.journal) q ≡ Some peer
      → is_peer (log_of (past_of b.journal)) peer.label ≡ true →
      number_live (past_of b.journal) peer.label ≤ 256
  pub few_keys : number_down (log_of (past_of b.journal)) ≤ 64
  pub ends : length b.journal + number_alive b.journal ≤ number_counted b.journal
      + length (past_of b.journal).joined
  pub one_end : (q : ℕ) → count_by (is_end_of q) b.journal ≤ 1

-- A pair with a join has the number of the root, one with a take that of its peer's writer's pass,
-- and one with any other step of a peer that of its reader's pass. A take takes at most 4,096 bytes,
-- and an end is that of the peer's link.
abbrev pub IsMadeBy : History → ℕ → Entry → Type 0
IsMadeBy h n (entries.Join role) = n ≡ 0
IsMadeBy h n (entries.Message q id opcode body) = reader_of h q ≡ Some n
IsMadeBy h n (entries.Tokens q tokens) = reader_of h q ≡ Some n
IsMadeBy h n (entries.BadSize q head) = reader_of h q ≡ Some n
IsMadeBy h n (entries.End q Gone) = reader_of h q ≡ Some n
IsMadeBy h n (entries.End q _) = ⊥
IsMadeBy h n (entries.Took q bytes) = (writer_of h q ≡ Some n) × (bytes ≤ 4096)
IsMadeBy h n _ = Unit {0}

-- so it is with all of these
abbrev pub AreMadeBy : History → History → Type 0
AreMadeBy h [] = Unit {0}
AreMadeBy h (s ∷ rest) = IsMadeBy h s.0 s.1.entry × AreMadeBy h rest

-- what a hub's history keeps: the journal that it makes is a shared state's, each peer has its
-- reader, each step is made by whose it is, and each is legal
pub record IsLawful (limits : Limits) (h : History) : Type 0 where
  pub limited : IsLimits limits
  pub shared : IsShared (broker_of limits h)
  pub readers : length (readers_of h) ≡ length (past_of (broker_of limits h).journal).joined
  pub made_by : AreMadeBy h h
  pub legal : HasLegalSteps limits h

-- the history of a broker whose peers have these readers
abbrev pub history_of : Broker → (readers : List ℕ) → History
history_of b readers = steps_in readers b.journal b.stamps

-- the value behind the lock: the shared state, the readers of those that joined, in order, and who
-- records
pub record Held : Type 0 where
  pub broker : Broker
  pub readers : List ℕ
  pub recorder : Option ℕ

-- the broker, as if none of its entries was let go
abbrev pub with_all : Broker → Broker
with_all b = record b { kept_from = 0 }

-- what it keeps
pub record IsKept (b : Broker) (readers : List ℕ) : Type 0 where
  pub limited : IsLimits b.limits
  pub is : broker_of b.limits (history_of b readers) ≡ with_all b
  pub joined : length readers ≡ length (past_of b.journal).joined
  pub stand : readers_of (history_of b readers) ≡ readers
  pub made_by : AreMadeBy (history_of b readers) (history_of b readers)
  pub legal : HasLegalSteps b.limits (history_of b readers)
