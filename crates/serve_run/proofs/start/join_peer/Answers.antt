use Rattle.std.proofs.Common.{ap, length}
use Rattle.serve_run.proofs.RootKept.{joined_by, not_joined}
use Rattle.serve_run.proofs.JoinsRefused.{was_refused}
use Rattle.serve_run.proofs.start.join_peer.Goals as goal

pub returns-in-Ok-clause-joined : goal.returns-in-Ok-clause-joined
returns-in-Ok-clause-joined g c =
    joined_by c.args.hub.now c.args.root.now c.join.new.root c.args.role c.in-Ok.both.0 c.in-Ok.both.1 c.requires.root.root_is
    c.in-Ok.ensures.joined

pub returns-in-Ok-clause-fresh : goal.returns-in-Ok-clause-fresh
returns-in-Ok-clause-fresh g c = (ap length c.in-Ok.ensures.fresh.0, ap length c.in-Ok.ensures.fresh.1)

pub returns-in-Err-clause-refused : goal.returns-in-Err-clause-refused
returns-in-Err-clause-refused g c =
    not_joined c.args.hub.now c.args.root.now c.join.new.root c.args.role c.in-Err.why c.requires.root.root_is
    c.in-Err.ensures.refused.0 c.in-Err.ensures.refused.1

pub returns-in-Err-clause-met : goal.returns-in-Err-clause-met
returns-in-Err-clause-met g c =
    was_refused c.args.hub.now.limits c.args.root.now c.join.new.root.seen c.args.role c.in-Err.why c.refused.result
    c.refused.ensures.is c.in-Err.ensures.refused.1
