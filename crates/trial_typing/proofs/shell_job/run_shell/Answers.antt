use Rattle.std.proofs.Common.{refl}
use Rattle.trial_typing.proofs.shell_job.run_shell.Goals as goal

pub returns : goal.returns
returns g c =
    let e = c.give_orders.ensures in record { pass = e.pass; saw = e.saw; same = refl; ends = e.ends }

pub give_orders-requires-clause-own : goal.give_orders-requires-clause-own
give_orders-requires-clause-own g c = c.requires.ready.of

pub give_orders-requires-clause-none : goal.give_orders-requires-clause-none
give_orders-requires-clause-none g c = c.requires.ready.none
