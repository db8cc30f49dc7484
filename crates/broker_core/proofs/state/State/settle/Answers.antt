use Rattle.std.proofs.Common.{◌≡◌, ℕ, List, Some, IsSome, subst, sym, refl, ◌∙◌, arith}
use Rattle.relay_objects.specs.Reached.{Reached}
use Rattle.broker_model.specs.declared.journal.Entry.{Entry}
use Rattle.broker_model.specs.declared.journal.Entry.TheVariants as entries
use Rattle.broker_audience.specs.Changes.{first_due}
use Rattle.broker_core.specs.Watched.{watched, watched_since}
use Rattle.broker_core.proofs.WatchedSince.{reached_more}
use Rattle.broker_core.proofs.FirstDueIsSettled.{first_there, next_end, end_stamps, none_due}
use Rattle.broker_core.proofs.state.State.settle.Given.{Over}
use Rattle.broker_core.proofs.state.State.settle.Goals as goal

pub loop-number-init : goal.loop-number-init
loop-number-init g c = record {
  stands = c.requires.stands;
  capacity = refl;
  kept = refl;
  few = c.requires.few;
  longer = omega arith;
  watched = λ k from h r. r;
  stamped = λ given h. h;
  rest = refl;
}

-- the first that is due, as the loop found it
found : (g : Over) (c : goal.After-end-arg-in-Some-1 g) →
    first_due c.loop-number.self.audience.live.items ≡ Some (c.in-Some.number, c.in-Some.cause)
found g c = sym c.due.ensures ∙ c.in-Some.is

pub end-requires-clause-stands : goal.end-requires-clause-stands
end-requires-clause-stands g c = c.loop-number.invariant.stands

pub end-requires-clause-live : goal.end-requires-clause-live
end-requires-clause-live g c =
    let there = first_there c.loop-number.self.audience.live.items c.in-Some.number c.in-Some.cause (found g c) in
    subst IsSome (sym there.1) refl

pub end-requires-clause-few : goal.end-requires-clause-few
end-requires-clause-few g c = let few = c.loop-number.invariant.few in omega arith

pub loop-number-smaller : goal.loop-number-smaller
loop-number-smaller g c =
    let first = sym c.due.ensures ∙ c.in-Some.is in
    (next_end c.loop-number.self c.end.new.self c.in-Some.number c.in-Some.cause c.loop-number.invariant.stands
    c.end.ensures.stands c.end.ensures.capacity
    c.end.ensures.ended first).fewer

pub loop-number-preserved : goal.loop-number-preserved
loop-number-preserved g c =
    let first = sym c.due.ensures ∙ c.in-Some.is in
    let near = next_end c.loop-number.self c.end.new.self c.in-Some.number c.in-Some.cause
    c.loop-number.invariant.stands c.end.ensures.stands
    c.end.ensures.capacity c.end.ensures.ended first in
    record {
      stands = c.end.ensures.stands;
      capacity = c.end.ensures.capacity ∙ c.loop-number.invariant.capacity;
      kept = c.end.ensures.kept ∙ c.loop-number.invariant.kept;
      few = (let few = c.loop-number.invariant.few in let more = near.more in let fewer = near.fewer in omega arith);
      longer = (let longer = c.loop-number.invariant.longer in let more = near.more in omega arith);
      watched = λ k from h r.
          let R = g.W.Watch.may_follow in
          let capacity = c.args.self.now.capacity in
          let here = c.loop-number.self.journal.entries in
          let e : Entry = entries.End c.in-Some.number c.in-Some.cause in
          let longer = c.loop-number.invariant.longer in
          let ended : Reached R c.loop-number.watch (watched capacity e here) c.end.new.watch =
          subst (λ (n : ℕ). Reached R c.loop-number.watch (watched n e here) c.end.new.watch)
          c.loop-number.invariant.capacity c.end.ensures.watched in
          subst (λ (j : List Entry). Reached R from (watched_since capacity k j) c.end.new.watch)
          (sym c.end.ensures.ended)
          (reached_more R capacity k e here from c.loop-number.watch c.end.new.watch (omega arith)
          (c.loop-number.invariant.watched k from h r) ended);
      stamped = λ given h.
          end_stamps c.loop-number.self c.end.new.self c.in-Some.number c.in-Some.cause _ given near.follows
          c.end.ensures.ended c.end.ensures.stamped
          (c.loop-number.invariant.stamped given h);
      rest = near.rest ∙ c.loop-number.invariant.rest;
    }

pub returns-clause-stands : goal.returns-clause-stands
returns-clause-stands g c = c.loop-number.invariant.stands

pub returns-clause-capacity : goal.returns-clause-capacity
returns-clause-capacity g c = c.loop-number.invariant.capacity

pub returns-clause-kept : goal.returns-clause-kept
returns-clause-kept g c = c.loop-number.invariant.kept

pub returns-clause-settled : goal.returns-clause-settled
returns-clause-settled g c =
    none_due c.loop-number.self c.loop-number.invariant.stands (sym c.due.ensures ∙ c.in_default.is)
    ∙ c.loop-number.invariant.rest

pub returns-clause-stamped : goal.returns-clause-stamped
returns-clause-stamped g c = c.loop-number.invariant.stamped

pub returns-clause-watched : goal.returns-clause-watched
returns-clause-watched g c = c.loop-number.invariant.watched
