use Rattle.hub_lock.specs.Passes.{IsOf}
use Rattle.test_hub.proofs.wake_tests.take_all.Given as goal

-- the writer's pass is the hub's
abbrev pub invariant-loop : goal.invariant-loop
invariant-loop g l = IsOf l.hub l.pass.seat
