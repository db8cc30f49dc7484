use Rattle.hub_lock.specs.Passes.{IsOf}
use Rattle.benches.proofs.peers.join_all.Given as goal

-- the root is the hub's
abbrev pub invariant-loop : goal.invariant-loop
invariant-loop g l = IsOf l.hub l.root
