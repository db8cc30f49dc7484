use Rattle.std.proofs.Common.{◌≡◌, ℕ}
use Rattle.turn_lock.specs.Pairs.{HasSeen, IsIn}
use Rattle.hub_lock.specs.Seats.{having_seen}
use Rattle.serve_run.proofs.finish.record_pass.Given as goal

-- the root has seen more, and made no step
abbrev pub invariant-loop : goal.invariant-loop
invariant-loop g l = record {
  root : l.root ≡ having_seen l.initial.root l.root.seen;
  mine : HasSeen l.root.seen 0 l.initial.root.seen;
  settled : (n : ℕ) → IsIn n l.initial.root.taken → HasSeen l.root.seen n l.initial.root.seen;
}
