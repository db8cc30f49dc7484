use Rattle.std.proofs.Common.{◌≡◌, take}
use Rattle.hub_lock.specs.Seats.{having_seen}
use Rattle.hub_calls.specs.Made.{entries_by, SawMore}
use Rattle.trial_typing.specs.ShellLaw.{ordered}
use Rattle.trial_typing.proofs.shell_job.give_orders.Given as goal

-- the orders so far were given
abbrev pub invariant-loop-step : goal.invariant-loop-step
invariant-loop-step g l = record {
  pass : l.pass ≡ having_seen l.initial.pass l.pass.seen;
  saw : SawMore l.hub.limits l.initial.pass.seen l.pass.seen;
  given : entries_by l.pass ≡ ordered (take l.step-index l.step-items);
}
