use Rattle.std.proofs.Common.{rules, take_all, subst}
use Rattle.serve_net.specs.MemNets.{LacksLinkFor}
use Rattle.serve_net.proofs.FirstLinks.{place_is}
use Rattle.serve_net.proofs.mem_net.place_for.Goals as goal

pub returns-then-waits_at-clause-place : goal.returns-then-waits_at-clause-place
returns-then-waits_at-clause-place c = (
  c.index-waiting-at.result,
  place_is c.args.door c.args.waiting.now c.loop-at.at c.index-waiting-at.result c.loop-at-test.true
      c.index-waiting-at.is (search rules) c.loop-at.invariant,
)

pub returns-clause-none : goal.returns-clause-none
returns-clause-none c = subst (LacksLinkFor c.args.door)
    (take_all c.loop-at.at c.args.waiting.now c.loop-at-test.false) c.loop-at.invariant
