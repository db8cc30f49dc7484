use Rattle.std.proofs.Common.{refl}
use Rattle.broker_model.specs.declared.journal.Entry.{Entry}
use Rattle.broker_model.specs.declared.journal.Entry.TheVariants as entries
use Rattle.broker_core.proofs.SharedAfterStep.{HasPlace, stepped, stays, becomes, stays_as, has_place, within_plain}
use Rattle.broker_core.proofs.CallWatched.{call_watched, refused_watched}
use Rattle.broker_core.proofs.shared.Shared.shell.Goals as goal

pub invariant_of-self : goal.invariant_of-self
invariant_of-self g c =
    stays_as c.self.inside.limits c.self.inside.state c.shell.new.self c.self.invariant c.in_err-route.ensures.stands
    c.in_err-route.ensures.capacity c.in_err-route.ensures.err c.in_err-route.ensures.unstamped c.shell.ensures.kept

pub invariant_of-self-2 : goal.invariant_of-self-2
invariant_of-self-2 g c =
    let e : Entry = entries.Shell c.args.step.now in
    let place : HasPlace c.self.inside.limits e c.self.inside.state.journal.entries =
    has_place c.self.inside.limits e c.args.self.now c.self.inside.state c.self.view_is refl c.requires.place in
    stays c.self.inside.limits e c.args.stamp c.self.inside.state c.settle.new.self c.self.invariant
    (within_plain c.self.inside.limits e c.self.inside.state tt refl c.self.invariant place)
    (stepped e c.args.stamp c.self.inside.state c.shell.new.self c.settle.new.self refl c.in_ok-route.ensures.capacity
    c.in_ok-route.ensures.ok c.in_ok-route.ensures.stamped c.settle.ensures.stands c.settle.ensures.capacity
    c.settle.ensures.settled c.settle.ensures.stamped c.shell.ensures.kept c.settle.ensures.kept)

pub returns-clause-ok : goal.returns-clause-ok
returns-clause-ok g c =
    let e : Entry = entries.Shell c.args.step.now in
    becomes c.self.inside.limits e c.args.stamp c.args.self.now c.self.inside.state c.settle.new.self c.self.view_is
    c.self.invariant
    (stepped e c.args.stamp c.self.inside.state c.shell.new.self c.settle.new.self refl c.in_ok-route.ensures.capacity
    c.in_ok-route.ensures.ok c.in_ok-route.ensures.stamped c.settle.ensures.stands c.settle.ensures.capacity
    c.settle.ensures.settled c.settle.ensures.stamped c.shell.ensures.kept c.settle.ensures.kept)

pub returns-in_err-route-clause-watched : goal.returns-in_err-route-clause-watched
returns-in_err-route-clause-watched g c =
    refused_watched g.W.Watch.may_follow c.self.inside.limits c.args.self.now c.self.inside.state c.shell.new.self
    c.args.watch.now c.shell.new.watch
    c.self.view_is c.in_err-route.ensures.err c.in_err-route.ensures.unstamped c.shell.ensures.kept
    c.in_err-route.ensures.unwatched

pub returns-clause-watched : goal.returns-clause-watched
returns-clause-watched g c =
    call_watched g.W.Watch.may_follow c.self.inside.limits (entries.Shell c.args.step.now) c.args.self.now
    c.self.inside.state c.shell.new.self c.settle.new.self c.args.watch.now c.shell.new.watch c.settle.new.watch
    c.self.view_is c.self.invariant c.in_ok-route.ensures.capacity c.in_ok-route.ensures.ok
    c.in_ok-route.ensures.watched c.settle.ensures.watched
