use Rattle.std.proofs.Common.{rules, refl}
use Rattle.hub_lock.specs.Bells.{IsRungBy}
use Rattle.hub_lock.proofs.NothingWatched.{nothing-watched, nothing-more}
use Rattle.hub_lock.proofs.state.HubState.answer.Goals as goal

pub returns-in-Copy-clause-watched : goal.returns-in-Copy-clause-watched
returns-in-Copy-clause-watched c =
    nothing-watched IsRungBy c.args.self.now.broker c.args.self.now.broker c.args.rings.now refl

pub returns-in-Name-clause-watched : goal.returns-in-Name-clause-watched
returns-in-Name-clause-watched c =
    nothing-watched IsRungBy c.args.self.now.broker c.name.new.self.broker c.args.rings.now c.name.ensures.broker

pub returns-in-HandOut-clause-watched : goal.returns-in-HandOut-clause-watched
returns-in-HandOut-clause-watched c =
    nothing-more IsRungBy c.args.self.now.broker c.hand_out.new.self.broker c.args.rings.now c.hand_out.ensures.journal

pub returns-in-Apply-clause-answers : goal.returns-in-Apply-clause-answers
returns-in-Apply-clause-answers c = search rules
