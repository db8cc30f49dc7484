use Rattle.std.proofs.Common.{◌≡◌, ◌∷◌, None, refl, sym, ◌∙◌, arith}
use Rattle.broker_model.specs.declared.journal.Entry.{Entry}
use Rattle.broker_model.specs.declared.journal.Entry.TheVariants as entries
use Rattle.broker_core.specs.Broker.{full_for}
use Rattle.broker_core.proofs.RefusalsTested.{take_place}
use Rattle.broker_core.proofs.SharedAfterStep.{HasPlace, stepped, stays, stays_as, shows_as, has_place, within_plain}
use Rattle.broker_core.proofs.CallWatched.{call_watched, nothing_watched, refused_watched}
use Rattle.broker_core.proofs.shared.Shared.take_watched.Goals as goal

pub invariant_of-self : goal.invariant_of-self
invariant_of-self g c =
    stays_as c.self.inside.limits c.self.inside.state c.take.new.self c.self.invariant c.in_default-take.ensures.stands
    c.in_default-take.ensures.capacity c.in_default-take.ensures.err c.in_default-take.ensures.unstamped
    c.take.ensures.kept

pub returns-in_default-take-clause-same : goal.returns-in_default-take-clause-same
returns-in_default-take-clause-same g c =
    shows_as c.self.inside.limits c.args.self.now c.self.inside.state c.take.new.self c.self.view_is
    c.in_default-take.ensures.err c.in_default-take.ensures.unstamped c.take.ensures.kept

pub invariant_of-self-2 : goal.invariant_of-self-2
invariant_of-self-2 g c =
    let e : Entry = entries.Took c.args.peer c.in-Ok.bytes in
    let full : full_for c.args.self.now e ≡ None =
    take_place c.args.self.now c.args.peer (sym c.take_refusal.ensures ∙ c.in_default.is) in
    let place : HasPlace c.self.inside.limits e c.self.inside.state.journal.entries =
    has_place c.self.inside.limits e c.args.self.now c.self.inside.state c.self.view_is refl full in
    let entered : c.take.new.self.journal.entries ≡ e ∷ c.self.inside.state.journal.entries = grind arith in
    stays c.self.inside.limits e c.args.stamp c.self.inside.state c.settle.new.self c.self.invariant
    (within_plain c.self.inside.limits e c.self.inside.state tt refl c.self.invariant place)
    (stepped e c.args.stamp c.self.inside.state c.take.new.self c.settle.new.self refl c.in-Ok.ensures.capacity entered
    c.in-Ok.ensures.stamped c.settle.ensures.stands c.settle.ensures.capacity
    c.settle.ensures.settled c.settle.ensures.stamped c.take.ensures.kept c.settle.ensures.kept)

pub returns-in-Some-clause-watched : goal.returns-in-Some-clause-watched
returns-in-Some-clause-watched g c = nothing_watched g.W.Watch.may_follow c.args.self.now c.args.watch.now

pub returns-in_default-take-clause-watched : goal.returns-in_default-take-clause-watched
returns-in_default-take-clause-watched g c =
    refused_watched g.W.Watch.may_follow c.self.inside.limits c.args.self.now c.self.inside.state c.take.new.self
    c.args.watch.now c.take.new.watch
    c.self.view_is c.in_default-take.ensures.err c.in_default-take.ensures.unstamped c.take.ensures.kept
    c.in_default-take.ensures.unwatched

pub returns-clause-watched : goal.returns-clause-watched
returns-clause-watched g c =
    let entered : c.take.new.self.journal.entries
    ≡ entries.Took c.args.peer c.in-Ok.bytes ∷ c.self.inside.state.journal.entries = grind arith in
    call_watched g.W.Watch.may_follow c.self.inside.limits (entries.Took c.args.peer c.in-Ok.bytes) c.args.self.now
    c.self.inside.state c.take.new.self c.settle.new.self c.args.watch.now c.take.new.watch c.settle.new.watch
    c.self.view_is c.self.invariant c.in-Ok.ensures.capacity entered c.in-Ok.ensures.watched c.settle.ensures.watched
