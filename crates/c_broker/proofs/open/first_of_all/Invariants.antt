use Rattle.std.proofs.Common.{◌-◌, ◌≤◌}
use Rattle.c_broker.specs.Seated.{NothingFor}
use Rattle.c_broker.proofs.open.first_of_all.Given as goal

-- nothing is stored for those that were looked at
abbrev pub invariant-peers : goal.invariant-peers
invariant-peers l = record {
  from : l.after ≤ l.number;
  none : NothingFor l.shared l.after l.number;
}

abbrev pub decreases-peers : goal.decreases-peers
decreases-peers l = l.count - l.number
