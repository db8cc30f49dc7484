use Rattle.std.proofs.Common.{◌≡◌, ◌<◌, None, refl, sym, ◌∙◌, subst}
use Rattle.broker_model.specs.declared.journal.Entry.{Entry}
use Rattle.broker_model.specs.declared.journal.Entry.TheVariants as entries
use Rattle.broker_model.specs.Settle.{number_alive}
use Rattle.broker_core.specs.Broker.{Broker, full_for}
use Rattle.broker_core.proofs.RefusalsTested.{join_place}
use Rattle.broker_core.proofs.SharedAfterStep.{HasPlace, stepped, stays, becomes, stays_as, shows_as, has_place, within_join, joined_stays}
use Rattle.broker_core.proofs.CallWatched.{call_watched, nothing_watched, refused_watched}
use Rattle.broker_core.proofs.shared.Shared.join_watched.Goals as goal

pub invariant_of-self : goal.invariant_of-self
invariant_of-self g c =
    stays_as c.self.inside.limits c.self.inside.state c.join.new.self c.self.invariant c.in_default-join.ensures.stands
    c.in_default-join.ensures.capacity c.in_default-join.ensures.err c.in_default-join.ensures.unstamped
    c.join.ensures.kept

pub returns-in_default-join-clause-err : goal.returns-in_default-join-clause-err
returns-in_default-join-clause-err g c =
    shows_as c.self.inside.limits c.args.self.now c.self.inside.state c.join.new.self c.self.view_is
    c.in_default-join.ensures.err c.in_default-join.ensures.unstamped c.join.ensures.kept

pub invariant_of-self-2 : goal.invariant_of-self-2
invariant_of-self-2 g c =
    let e : Entry = entries.Join c.args.role in
    let open_ : (number_alive c.args.self.now.journal < 64) × (full_for c.args.self.now e ≡ None) =
    join_place c.args.self.now c.args.role (sym c.join_refusal.ensures ∙ c.in_default.is) in
    let few : number_alive c.self.inside.state.journal.entries < 64 =
    subst (λ (b : Broker). number_alive b.journal < 64) (sym c.self.view_is) open_.0 in
    let place : HasPlace c.self.inside.limits e c.self.inside.state.journal.entries =
    has_place c.self.inside.limits e c.args.self.now c.self.inside.state c.self.view_is refl open_.1 in
    stays c.self.inside.limits e c.args.stamp c.self.inside.state c.settle.new.self c.self.invariant
    (within_join c.self.inside.limits c.args.role c.self.inside.state few place)
    (stepped e c.args.stamp c.self.inside.state c.join.new.self c.settle.new.self refl c.in-Ok.ensures.capacity
    c.in-Ok.ensures.ok c.in-Ok.ensures.stamped c.settle.ensures.stands
    c.settle.ensures.capacity c.settle.ensures.settled c.settle.ensures.stamped c.join.ensures.kept
    c.settle.ensures.kept)

pub returns-clause-ok : goal.returns-clause-ok
returns-clause-ok g c =
    let e : Entry = entries.Join c.args.role in
    becomes c.self.inside.limits e c.args.stamp c.args.self.now c.self.inside.state c.settle.new.self c.self.view_is
    c.self.invariant
    (stepped e c.args.stamp c.self.inside.state c.join.new.self c.settle.new.self refl c.in-Ok.ensures.capacity
    c.in-Ok.ensures.ok c.in-Ok.ensures.stamped c.settle.ensures.stands
    c.settle.ensures.capacity c.settle.ensures.settled c.settle.ensures.stamped c.join.ensures.kept
    c.settle.ensures.kept)

pub returns-clause-number : goal.returns-clause-number
returns-clause-number g c =
    let e : Entry = entries.Join c.args.role in
    c.in-Ok.ensures.number
    ∙ sym (joined_stays e c.self.inside.state c.join.new.self c.settle.new.self c.in-Ok.ensures.ok
    c.settle.ensures.settled)

pub returns-in-Some-clause-watched : goal.returns-in-Some-clause-watched
returns-in-Some-clause-watched g c = nothing_watched g.W.Watch.may_follow c.args.self.now c.args.watch.now

pub returns-in_default-join-clause-watched : goal.returns-in_default-join-clause-watched
returns-in_default-join-clause-watched g c =
    refused_watched g.W.Watch.may_follow c.self.inside.limits c.args.self.now c.self.inside.state c.join.new.self
    c.args.watch.now c.join.new.watch
    c.self.view_is c.in_default-join.ensures.err c.in_default-join.ensures.unstamped c.join.ensures.kept
    c.in_default-join.ensures.unwatched

pub returns-clause-watched : goal.returns-clause-watched
returns-clause-watched g c =
    call_watched g.W.Watch.may_follow c.self.inside.limits (entries.Join c.args.role) c.args.self.now
    c.self.inside.state c.join.new.self c.settle.new.self c.args.watch.now c.join.new.watch c.settle.new.watch
    c.self.view_is c.self.invariant c.in-Ok.ensures.capacity c.in-Ok.ensures.ok c.in-Ok.ensures.watched
    c.settle.ensures.watched
