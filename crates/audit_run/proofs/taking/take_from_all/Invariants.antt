use Rattle.std.proofs.Common.{ℕ, ◌+◌, ◌-◌, ◌≤◌, List}
use Rattle.seat_set.specs.Laws.{lines_played}
use Rattle.audit_run.specs.Taking.{audit_limits, takes_from}
use Rattle.audit_run.specs.Standing.{GoesOn, IsOnWay}
use Rattle.audit_run.proofs.taking.take_from_all.Given as goal

-- the peers with higher numbers are left, and lead to the same
abbrev pub invariant-peers : goal.invariant-peers
invariant-peers l = record {
  within : l.above ≤ l.most;
  on : (all : ℕ → List ℕ) → GoesOn all l.fn.player l.fn.gatherer →
      IsOnWay (lines_played audit_limits (takes_from 1 l.most) l.fn.player.play) all
      (takes_from (l.above + 1) (l.most - l.above)) l.player l.gatherer;
}

abbrev pub decreases-peers : goal.decreases-peers
decreases-peers l = l.most - l.above
