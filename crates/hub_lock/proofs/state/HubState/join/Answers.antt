use Rattle.std.proofs.Common.{rules, ◌+◌, ◌∙◌, ap, sym, refl, arith, Err, Ok}
use Rattle.broker_core.specs.Broker.{Broker}
use Rattle.hub_lock.specs.Bells.{IsRungBy}
use Rattle.hub_lock.specs.Lawful.{Held}
use Rattle.hub_lock.proofs.HistoriesGrow.{steps_few}
use Rattle.hub_lock.proofs.CallsAnswered.{IsAfterJoin, joins-by, join-kept, join-longer, longer-length}
use Rattle.hub_lock.proofs.NothingWatched.{nothing-watched}
use Rattle.hub_lock.proofs.StepsFind.{few-alive}
use Rattle.hub_lock.proofs.state.HubState.join.Goals as goal
use Rattle.hub_lock.proofs.state.HubState.join.Goals.{After-push}
use Rattle.hub_lock.proofs.state.HubState.join.Goals.at

pub returns-in-Some-clause-joins : goal.returns-in-Some-clause-joins
returns-in-Some-clause-joins c =
    rw (← c.self.view_is) (joins-by c.self.inside.shared c.self.inside.readers.items c.args.number c.self.invariant.0
    c.entries-entries.ensures.shared.stamped c.args.role c.args.reader (Err c.in-Some.why) c.self.inside.shared
    c.self.inside.readers.items (search rules) (search rules) tt tt (refl, refl))

pub returns-in-Some-clause-watched : goal.returns-in-Some-clause-watched
returns-in-Some-clause-watched c =
    nothing-watched IsRungBy c.args.self.now.broker c.args.self.now.broker c.args.rings.now refl

pub returns-then-is_err-clause-watched : goal.returns-then-is_err-clause-watched
returns-then-is_err-clause-watched c =
    nothing-watched IsRungBy c.args.self.now.broker c.self.inside.shared c.args.rings.now
    (ap (λ (h : Held). h.broker) c.self.view_is)

after : (c : After-push) →
    IsAfterJoin c.self.inside.shared c.self.inside.readers.items c.args.number c.args.role c.args.reader
    c.join_watched.new.self c.push.new.self.items
after c = (search rules, search rules)

pub overflow_add-self : goal.overflow_add-self
overflow_add-self c =
    let few = steps_few c.self.inside.readers.items c.self.inside.shared.journal c.self.inside.shared.stamps in
    let l = c.self.invariant.2 in
    let n = c.entries-entries.ensures.number in omega arith

pub invariant_of-self-2 : goal.invariant_of-self-2
invariant_of-self-2 c =
    let b = c.self.inside.shared in
    let readers = c.self.inside.readers.items in
    let s = c.entries-entries.ensures.shared.stamped in
    let a = after (at.invariant_of-self-2 c).After-push in (
      join-kept b readers c.args.number c.self.invariant.0 s c.args.role c.args.reader _ _ a c.requires.root
          (few-alive b c.args.role (search rules)) (search rules),
      search rules,
      ap (λ n. n + 1) c.self.invariant.2 ∙ sym (longer-length _ _ _ _
          (join-longer b readers c.args.number c.self.invariant.0 s c.args.role c.args.reader c.join_watched.new.self
          c.push.new.self.items a)),
      λ none. ap (λ (x : Broker). x.kept_from) a.0 ∙ c.self.invariant.3 none,
    )

pub returns-clause-joins : goal.returns-clause-joins
returns-clause-joins c =
    rw (← c.self.view_is) (joins-by c.self.inside.shared c.self.inside.readers.items c.args.number c.self.invariant.0
    c.entries-entries.ensures.shared.stamped c.args.role c.args.reader (Ok c.in_ok-peer.peer) c.join_watched.new.self
    c.push.new.self.items (search rules) (search rules) (after (at.returns-clause-joins c).After-push)
    (search rules) tt)
