use Rattle.std.proofs.Common.{◌∙◌}
use Rattle.c_relay.proofs.LivingCounted.{over_is}
use Rattle.c_relay.proofs.census.Census.is_over.Goals as goal

pub returns : goal.returns
returns c = λ log same number.
    c.crowds.ensures
    ∙ over_is c.args.self.now.limits c.args.act.now c.args.number c.args.self.now.living c.made.result log same number
    c.made.ensures
