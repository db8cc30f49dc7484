use Rattle.std.proofs.Common.{refl, ◌∙◌, ap}
use Rattle.relay_model.specs.declared.act.EndCause.TheVariants.{Gone}
use Rattle.broker_model.specs.declared.journal.Entry.{Entry}
use Rattle.broker_model.specs.declared.journal.Entry.TheVariants as entries
use Rattle.broker_core.specs.Taking.{standing_of}
use Rattle.broker_core.specs.Broker.{Broker}
use Rattle.broker_core.proofs.WhoIsAlive.{alive_there}
use Rattle.broker_core.proofs.SharedAfterStep.{stepped, stays, within_gone}
use Rattle.broker_core.proofs.CallWatched.{call_watched}
use Rattle.broker_core.proofs.shared.Shared.gone.Goals as goal

pub end-requires-clause-live : goal.end-requires-clause-live
end-requires-clause-live g c =
    alive_there c.self.inside.state c.args.number c.self.invariant.stands
    (ap (λ (b : Broker). standing_of b.journal c.args.number) c.self.view_is ∙ c.requires)

pub invariant_of-self : goal.invariant_of-self
invariant_of-self g c =
    let e : Entry = entries.End c.args.number Gone in
    stays c.self.inside.limits e c.args.stamp c.self.inside.state c.settle.new.self c.self.invariant
    (within_gone c.self.inside.limits c.args.number c.self.inside.state c.self.invariant
    (ap (λ (b : Broker). standing_of b.journal c.args.number) c.self.view_is ∙ c.requires))
    (stepped e c.args.stamp c.self.inside.state c.end.new.self c.settle.new.self refl c.end.ensures.capacity
    c.end.ensures.ended c.end.ensures.stamped c.settle.ensures.stands c.settle.ensures.capacity
    c.settle.ensures.settled c.settle.ensures.stamped c.end.ensures.kept c.settle.ensures.kept)

pub returns-clause-watched : goal.returns-clause-watched
returns-clause-watched g c =
    call_watched g.W.Watch.may_follow c.self.inside.limits (entries.End c.args.number Gone) c.args.self.now
    c.self.inside.state c.end.new.self c.settle.new.self c.args.watch.now c.end.new.watch c.settle.new.watch
    c.self.view_is c.self.invariant c.end.ensures.capacity c.end.ensures.ended c.end.ensures.watched
    c.settle.ensures.watched
