use Rattle.std.proofs.Common.{ap, arith}
use Rattle.session_gen.specs.Generated.{Progress}
use Rattle.program_gen.proofs.RunGoesOn.{begins, goes_on, counted_all}
use Rattle.program_gen.proofs.running.count_run.Goals as goal

pub loop-alloc-init : goal.loop-alloc-init
loop-alloc-init c = begins c.args.number c.args.run.now c.requires.stands c.requires.first

pub loop-alloc-preserved : goal.loop-alloc-preserved
loop-alloc-preserved c =
    goes_on c.args.number c.loop-alloc.run c.next.new.self c.loop-alloc.invariant c.in_ok-next.ensures.stands
    c.in_ok-next.ensures.made

pub loop-alloc-smaller : goal.loop-alloc-smaller
loop-alloc-smaller c =
    let made = ap (λ (x : Progress). x.made) c.in_ok-next.ensures.made in
    omega (arith, made, c.left.ensures, c.loop-alloc-test.true)

pub next-requires-clause-more : goal.next-requires-clause-more
next-requires-clause-more c = omega (arith, c.left.ensures, c.loop-alloc-test.true)

pub next-requires-clause-stands : goal.next-requires-clause-stands
next-requires-clause-stands c = c.loop-alloc.invariant.stands

pub counts-requires : goal.counts-requires
counts-requires c = c.loop-alloc.invariant.stands

pub returns : goal.returns
returns c =
    counted_all c.args.number c.loop-alloc.run c.counts.result c.loop-alloc.invariant
    (omega (arith, c.left.ensures, c.loop-alloc-test.false)) c.counts.ensures
