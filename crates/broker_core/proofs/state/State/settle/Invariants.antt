use Rattle.std.proofs.Common.{◌≡◌, ◌≤◌, ◌<◌, ◌+◌, ℕ, List, length}
use Rattle.relay_objects.specs.Reached.{Reached}
use Rattle.broker_steps.specs.declared.stamp.Stamp.{Stamp}
use Rattle.broker_model.specs.Settle.{settle}
use Rattle.broker_model.specs.Stamps.{stamps}
use Rattle.broker_core.specs.Broker.{gone}
use Rattle.broker_core.specs.Stands.{Stands}
use Rattle.broker_core.specs.Watched.{watched_since}
use Rattle.broker_core.proofs.state.State.settle.Given as goal

-- it stands, the same is left to settle, and who watches is told of each end so far
abbrev pub invariant-loop-number : goal.invariant-loop-number
invariant-loop-number g l = record {
  stands : Stands l.self;
  capacity : l.self.capacity ≡ l.fn.self.capacity;
  kept : gone l.self ≡ gone l.fn.self;
  few : length l.self.journal.entries + length l.self.audience.live.items < 4294967295;
  longer : length l.fn.self.journal.entries ≤ length l.self.journal.entries;
  watched : (k : ℕ) (from : _) → k ≤ length l.fn.self.journal.entries →
      Reached g.W.Watch.may_follow from (watched_since l.fn.self.capacity k l.fn.self.journal.entries) l.fn.watch →
      Reached g.W.Watch.may_follow from (watched_since l.fn.self.capacity k l.self.journal.entries) l.watch;
  stamped : (given : List Stamp) → stamps l.fn.self.journal.entries given ≡ l.fn.self.stamps.stamps →
      stamps l.self.journal.entries given ≡ l.self.stamps.stamps;
  rest : settle l.self.capacity l.self.journal.entries ≡ settle l.fn.self.capacity l.fn.self.journal.entries;
}

-- each end leaves fewer peers alive
abbrev pub decreases-loop-number : goal.decreases-loop-number
decreases-loop-number g l = length l.self.audience.live.items
