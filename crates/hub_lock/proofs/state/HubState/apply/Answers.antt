use Rattle.std.proofs.Common.{rules, ◌+◌, ◌≡◌, ◌∙◌, ap, sym, subst, refl, arith, inr, Ok, None}
use Rattle.broker_core.specs.declared.answers.Applied.{Applied}
use Rattle.broker_core.specs.Broker.{Broker, entry_of, refusal, with_step}
use Rattle.hub_lock.specs.Bells.{IsRungBy}
use Rattle.hub_lock.specs.Histories.{only, stamp_by}
use Rattle.hub_lock.specs.Plays.{IsOwn}
use Rattle.hub_lock.specs.Lawful.{Held, history_of}
use Rattle.hub_lock.proofs.HistoriesGrow.{steps_few}
use Rattle.hub_lock.proofs.KeptAfterStep.{IsLegalStep}
use Rattle.hub_lock.proofs.StepsFind.{not-refused}
use Rattle.hub_lock.proofs.CallsAnswered.{IsOuter, applies-by, own-step, kept-by, longer-by, longer-length}
use Rattle.hub_lock.proofs.NothingWatched.{nothing-watched}
use Rattle.hub_lock.proofs.state.HubState.apply.Goals as goal
use Rattle.hub_lock.proofs.state.HubState.apply.Goals.{After-apply_watched}
use Rattle.hub_lock.proofs.state.HubState.apply.Goals.at

pub returns-then-not-is_own-clause-watched : goal.returns-then-not-is_own-clause-watched
returns-then-not-is_own-clause-watched c =
    nothing-watched IsRungBy c.args.self.now.broker c.args.self.now.broker c.args.rings.now refl

pub overflow_add-self : goal.overflow_add-self
overflow_add-self c =
    let few = steps_few c.self.inside.readers.items c.self.inside.shared.journal c.self.inside.shared.stamps in
    let l = c.self.invariant.2 in
    let n = c.entries-entries.ensures.number in omega arith

own : (c : After-apply_watched) →
    IsOwn (history_of c.self.inside.shared c.self.inside.readers.items) c.args.number c.args.step.now
own c = subst (λ (h : Held). IsOwn (history_of h.broker h.readers) c.args.number c.args.step.now) (sym c.self.view_is)
    (c.is_own.ensures.0 (search rules))

outer : (c : After-apply_watched) → IsOuter c.self.inside.shared c.self.inside.readers.items c.args.number
    c.self.invariant.0 c.entries-entries.ensures.shared.stamped (entry_of c.args.step.now)
outer c = own-step c.self.inside.shared c.self.inside.readers.items c.args.number c.self.invariant.0
    c.entries-entries.ensures.shared.stamped c.args.step.now (own c)

legal : (c : After-apply_watched) → (applied : Applied) → c.apply_watched.result ≡ Ok applied →
    IsLegalStep c.self.inside.shared c.args.number (entry_of c.args.step.now)
legal c applied is =
    let none : refusal c.self.inside.shared c.args.step.now ≡ None =
    not-refused (refusal c.self.inside.shared c.args.step.now) c.apply_watched.result applied
    c.apply_watched.ensures.refused is in
    record {
      entry = record { given = c.requires.given; finds = c.finds.ensures none };
      author = search rules;
    }

pub invariant_of-self-2 : goal.invariant_of-self-2
invariant_of-self-2 c =
    let b = c.self.inside.shared in
    let readers = c.self.inside.readers.items in
    let s = c.entries-entries.ensures.shared.stamped in
    let e : c.apply_watched.new.self
    ≡ with_step (entry_of c.args.step.now) (stamp_by c.args.number) c.self.inside.shared = search rules in
    let o = outer (at.invariant_of-self-2 c).After-apply_watched in
    let l = legal (at.invariant_of-self-2 c).After-apply_watched c.in_ok-applied.applied (search rules) in (
      kept-by b readers c.args.number c.self.invariant.0 s (entry_of c.args.step.now) c.apply_watched.new.self o l
          (search rules),
      search rules,
      ap (λ n. n + 1) c.self.invariant.2 ∙ sym (longer-length _ _ _ _
          (longer-by b readers c.args.number c.self.invariant.0 s (entry_of c.args.step.now) c.apply_watched.new.self o
          (search rules))),
      λ none. ap (λ (x : Broker). x.kept_from) e ∙ c.self.invariant.3 none,
    )

pub returns-clause-applies : goal.returns-clause-applies
returns-clause-applies c mine =
    let a = (at.returns-clause-applies c).After-apply_watched in
    rw (← c.self.view_is) (applies-by c.self.inside.shared c.self.inside.readers.items c.args.number c.self.invariant.0
    c.entries-entries.ensures.shared.stamped c.args.step.now (Ok c.in_ok-applied.applied) c.apply_watched.new.self
    (own a) (search rules) (search rules) (search rules) (search rules) (search rules) tt)

pub returns-clause-grows : goal.returns-clause-grows
returns-clause-grows c =
    let o = outer (at.returns-clause-grows c).After-apply_watched in
    rw (← c.self.view_is) (inr (
      only (entry_of c.args.step.now),
      longer-by c.self.inside.shared c.self.inside.readers.items
          c.args.number c.self.invariant.0 c.entries-entries.ensures.shared.stamped (entry_of c.args.step.now)
          c.apply_watched.new.self o (search rules),
    ))
