use Rattle.std.proofs.Common.{refl, ◌∙◌, ap}
use Rattle.broker_model.specs.declared.journal.Entry.{Entry}
use Rattle.broker_model.specs.declared.journal.Entry.TheVariants as entries
use Rattle.broker_core.specs.Taking.{standing_of}
use Rattle.broker_core.specs.Broker.{Broker}
use Rattle.broker_core.proofs.WhoIsAlive.{alive_there}
use Rattle.broker_core.proofs.SharedAfterStep.{HasPlace, stepped, stays, becomes, stays_as, has_place, within_plain}
use Rattle.broker_core.proofs.CallWatched.{call_watched, refused_watched}
use Rattle.broker_core.proofs.shared.Shared.bad_size.Goals as goal

pub bad_size-requires-clause-live : goal.bad_size-requires-clause-live
bad_size-requires-clause-live g c =
    alive_there c.self.inside.state c.args.number c.self.invariant.stands
    (ap (λ (b : Broker). standing_of b.journal c.args.number) c.self.view_is ∙ c.requires.live)

pub invariant_of-self : goal.invariant_of-self
invariant_of-self g c =
    stays_as c.self.inside.limits c.self.inside.state c.bad_size.new.self c.self.invariant
    c.in_err-bad_size.ensures.stands c.in_err-bad_size.ensures.capacity c.in_err-bad_size.ensures.err
    c.in_err-bad_size.ensures.unstamped c.bad_size.ensures.kept

pub invariant_of-self-2 : goal.invariant_of-self-2
invariant_of-self-2 g c =
    let e : Entry = entries.BadSize c.args.number c.args.head in
    let place : HasPlace c.self.inside.limits e c.self.inside.state.journal.entries =
    has_place c.self.inside.limits e c.args.self.now c.self.inside.state c.self.view_is refl c.requires.place in
    stays c.self.inside.limits e c.args.stamp c.self.inside.state c.settle.new.self c.self.invariant
    (within_plain c.self.inside.limits e c.self.inside.state tt refl c.self.invariant place)
    (stepped e c.args.stamp c.self.inside.state c.bad_size.new.self c.settle.new.self refl
    c.in_ok-bad_size.ensures.capacity c.in_ok-bad_size.ensures.ok c.in_ok-bad_size.ensures.stamped
    c.settle.ensures.stands c.settle.ensures.capacity
    c.settle.ensures.settled c.settle.ensures.stamped c.bad_size.ensures.kept c.settle.ensures.kept)

pub returns-clause-ok : goal.returns-clause-ok
returns-clause-ok g c =
    let e : Entry = entries.BadSize c.args.number c.args.head in
    becomes c.self.inside.limits e c.args.stamp c.args.self.now c.self.inside.state c.settle.new.self c.self.view_is
    c.self.invariant
    (stepped e c.args.stamp c.self.inside.state c.bad_size.new.self c.settle.new.self refl
    c.in_ok-bad_size.ensures.capacity c.in_ok-bad_size.ensures.ok c.in_ok-bad_size.ensures.stamped
    c.settle.ensures.stands c.settle.ensures.capacity
    c.settle.ensures.settled c.settle.ensures.stamped c.bad_size.ensures.kept c.settle.ensures.kept)

pub returns-in_err-bad_size-clause-watched : goal.returns-in_err-bad_size-clause-watched
returns-in_err-bad_size-clause-watched g c =
    refused_watched g.W.Watch.may_follow c.self.inside.limits c.args.self.now c.self.inside.state c.bad_size.new.self
    c.args.watch.now c.bad_size.new.watch
    c.self.view_is c.in_err-bad_size.ensures.err c.in_err-bad_size.ensures.unstamped c.bad_size.ensures.kept
    c.in_err-bad_size.ensures.unwatched

pub returns-clause-watched : goal.returns-clause-watched
returns-clause-watched g c =
    call_watched g.W.Watch.may_follow c.self.inside.limits (entries.BadSize c.args.number c.args.head) c.args.self.now
    c.self.inside.state c.bad_size.new.self c.settle.new.self c.args.watch.now c.bad_size.new.watch c.settle.new.watch
    c.self.view_is c.self.invariant c.in_ok-bad_size.ensures.capacity c.in_ok-bad_size.ensures.ok
    c.in_ok-bad_size.ensures.watched c.settle.ensures.watched
