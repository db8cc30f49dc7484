use Rattle.std.proofs.Common.{sym}
use Rattle.relay_objects.proofs.FocusVisits.{visit_none}
use Rattle.relay_objects.proofs.entered.refocus_entered.Goals as goal

pub returns-in-Nobody-clause-items : goal.returns-in-Nobody-clause-items
returns-in-Nobody-clause-items c = rw c.in-Nobody.is (sym (visit_none c.args.peer c.args.shelf.now.items))
