use Rattle.hub_lock.specs.Passes.{IsOf}
use Rattle.benches.proofs.peers.commit_often.Given as goal

-- the pass is the hub's
abbrev pub invariant-loop : goal.invariant-loop
invariant-loop g l = IsOf l.hub l.pass.seat
