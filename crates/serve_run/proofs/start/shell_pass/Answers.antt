use Rattle.std.proofs.Common.{ap, length}
use Rattle.hub_lock.specs.Passes.{PassSeat}
use Rattle.serve_run.proofs.RootKept.{split_root, split_of}
use Rattle.serve_run.proofs.start.shell_pass.Goals as goal

pub returns-clause-root : goal.returns-clause-root
returns-clause-root c =
    split_root c.args.hub.now c.args.root.now c.shell.new.root c.requires.root c.shell.ensures.left

pub returns-clause-own : goal.returns-clause-own
returns-clause-own c =
    split_of c.args.hub.now c.args.root.now c.shell.result c.requires.root c.shell.ensures.right

pub returns-clause-number : goal.returns-clause-number
returns-clause-number c = ap (λ (s : PassSeat). s.number) c.shell.ensures.right

pub returns-clause-fresh : goal.returns-clause-fresh
returns-clause-fresh c = ap length c.shell.ensures.fresh
