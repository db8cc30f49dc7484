use Rattle.std.proofs.Common.{rules, ◌≡◌, ◌≤◌, ◌+◌, ◌∙◌, ap, sym, subst, refl, arith, inr, take, Some, IfSome}
use Rattle.broker_model.specs.declared.journal.Entry.TheVariants as entries
use borrow.Rule.Slice.PartMut.{put_mid}
use Rattle.broker_core.specs.Broker.{Broker, IfBytes, with_step}
use Rattle.broker_core.specs.Taking.{out_at}
use Rattle.hub_lock.specs.Bells.{IsRungBy}
use Rattle.hub_lock.specs.Histories.{writer_of, only, stamp_by}
use Rattle.hub_lock.specs.Plays.{IsTakenInto}
use Rattle.hub_lock.specs.Lawful.{Held, history_of}
use Rattle.hub_lock.proofs.HistoriesGrow.{steps_few}
use Rattle.hub_lock.proofs.CallsAnswered.{IsOuter, into-by, few-by, own-take, takes-by, kept-by, longer-by, longer-length}
use Rattle.hub_lock.proofs.NothingWatched.{nothing-watched}
use Rattle.hub_lock.proofs.KeptAfterStep.{IsLegalStep}
use Rattle.hub_lock.proofs.StepsFind.{IsTaking, taking}
use Rattle.hub_lock.proofs.state.HubState.take_into.Goals as goal
use Rattle.hub_lock.proofs.state.HubState.take_into.Goals.{In-Bytes}
use Rattle.hub_lock.proofs.state.HubState.take_into.Goals.at

pub returns-then-not-is_writer-clause-watched : goal.returns-then-not-is_writer-clause-watched
returns-then-not-is_writer-clause-watched c =
    nothing-watched IsRungBy c.args.self.now.broker c.args.self.now.broker c.args.rings.now refl

pub overflow_add-self : goal.overflow_add-self
overflow_add-self c =
    let few = steps_few c.self.inside.readers.items c.self.inside.shared.journal c.self.inside.shared.stamps in
    let l = c.self.invariant.2 in
    let n = c.entries-entries.ensures.number in omega arith

own : (c : In-Bytes) →
    writer_of (history_of c.self.inside.shared c.self.inside.readers.items) c.args.peer ≡ Some c.args.number
own c = subst (λ (h : Held). writer_of (history_of h.broker h.readers) c.args.peer ≡ Some c.args.number)
    (sym c.self.view_is)
    (c.is_writer.ensures.0 (search rules))

into : (c : In-Bytes) →
    IfSome (out_at c.self.inside.shared.limits.store c.self.inside.shared.journal c.args.peer)
    (λ out. IfBytes c.take_watched-took.result (λ counts. IsTakenInto out c.args.most
    (put_mid 0 c.args.most c.args.bytes.now c.take_watched-took.new.buf) c.take_watched-took.new.tokens
    counts))
into c = into-by c.self.inside.shared c.self.inside.readers.items c.args.number c.self.invariant.0
    c.entries-entries.ensures.shared.stamped
    _ c.args.peer c.args.most c.args.bytes.now (take c.args.most c.args.bytes.now)
    c.take_watched-took.new.buf _ c.take_watched-took.new.tokens c.take_watched-took.result
    refl (search rules) (search rules) (search rules) (search rules) c.take_watched-took.ensures.bytes

few : (c : In-Bytes) → IfBytes c.take_watched-took.result (λ counts. counts.0 ≤ 4096)
few c = few-by c.self.inside.shared c.self.inside.readers.items c.args.number c.self.invariant.0
    c.entries-entries.ensures.shared.stamped
    _ c.args.peer c.args.most _ _ c.take_watched-took.result
    (search rules) c.take_watched-took.ensures.refused (into c)

outer : (c : In-Bytes) → IsOuter c.self.inside.shared c.self.inside.readers.items c.args.number c.self.invariant.0
    c.entries-entries.ensures.shared.stamped (entries.Took c.args.peer c.in-Bytes.field-0)
outer c = own-take c.self.inside.shared c.self.inside.readers.items c.args.number c.self.invariant.0
    c.entries-entries.ensures.shared.stamped c.args.peer c.in-Bytes.field-0 (own c)
    (subst (λ r. IfBytes r (λ counts. counts.0 ≤ 4096)) c.in-Bytes.is (few c))

legal : (c : In-Bytes) →
    IsLegalStep c.self.inside.shared c.args.number (entries.Took c.args.peer c.in-Bytes.field-0)
legal c =
    let b = c.self.inside.shared in
    let t : IsTaking b.limits b.journal c.args.peer c.in-Bytes.field-0 =
    taking b c.args.peer c.args.most _ _ c.take_watched-took.result c.in-Bytes.field-0
    c.in-Bytes.field-1 c.in-Bytes.is c.requires.most.0 c.requires.most.1
    c.take_watched-took.ensures.refused (into c) in
    record {
      entry = record { given = (search rules, t.within); finds = t.stored };
      author = search rules;
    }

kept : (c : In-Bytes) → c.take_watched-took.new.self.kept_from ≡ c.self.inside.shared.kept_from
kept c =
    let e : c.take_watched-took.new.self
    ≡ with_step (entries.Took c.args.peer c.in-Bytes.field-0) (stamp_by c.args.number) c.self.inside.shared =
    search rules in
    ap (λ (x : Broker). x.kept_from) e

pub invariant_of-self : goal.invariant_of-self
invariant_of-self c =
    let b = c.self.inside.shared in
    let readers = c.self.inside.readers.items in
    let s = c.entries-entries.ensures.shared.stamped in
    let e = entries.Took c.args.peer c.in-Bytes.field-0 in
    let o = outer (at.invariant_of-self c).In-Bytes in
    let l = legal (at.invariant_of-self c).In-Bytes in (
      kept-by b readers c.args.number c.self.invariant.0 s e c.take_watched-took.new.self o l (search rules),
      search rules,
      ap (λ n. n + 1) c.self.invariant.2 ∙ sym (longer-length _ _ _ _
          (longer-by b readers c.args.number c.self.invariant.0 s e c.take_watched-took.new.self o (search rules))),
      λ none. kept (at.invariant_of-self c).In-Bytes ∙ c.self.invariant.3 none,
    )

pub returns-in-Bytes-clause-takes : goal.returns-in-Bytes-clause-takes
returns-in-Bytes-clause-takes c mine =
    let a = (at.returns-in-Bytes-clause-takes c).In-Bytes in
    rw (← c.self.view_is)
    (takes-by c.self.inside.shared c.self.inside.readers.items c.args.number c.self.invariant.0
    c.entries-entries.ensures.shared.stamped c.args.peer c.args.most _ _ c.take_watched-took.result
    c.take_watched-took.new.self (own a) c.take_watched-took.ensures.refused c.take_watched-took.ensures.accepted
    (into a)
    (few a) (search rules) c.take_watched-took.ensures.same)

pub returns-in-Bytes-clause-grows : goal.returns-in-Bytes-clause-grows
returns-in-Bytes-clause-grows c =
    let o = outer (at.returns-in-Bytes-clause-grows c).In-Bytes in
    let e = entries.Took c.args.peer c.in-Bytes.field-0 in
    rw (← c.self.view_is) (inr (
      only e,
      longer-by c.self.inside.shared c.self.inside.readers.items
          c.args.number c.self.invariant.0 c.entries-entries.ensures.shared.stamped e c.take_watched-took.new.self o
          (search rules),
    ))
