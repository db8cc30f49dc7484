use Rattle.std.proofs.Common.{◌≡◌, ◌<◌, true, false, length, sym, ◌∙◌, arith, rules}
use Rattle.std.specs.Prelude.{is_some}
use Rattle.program_run.proofs.SeatsAtPlaces.{full_here, none_here}
use Rattle.program_run.proofs.seats.is_some_full.Goals as goal

pub returns-then-is_some : goal.returns-then-is_some
returns-then-is_some c =
    let lt : c.loop-place.place < length c.args.set.now.seats =
    omega (arith, c.loop-place-test.true, c.count.ensures.number) in
    let test : is_some c.full.result ≡ true = search rules in
    sym (c.loop-place.invariant.1
    ∙ full_here c.loop-place.place c.args.set.now.seats c.full.result lt c.full.ensures test)

pub loop-place-preserved : goal.loop-place-preserved
loop-place-preserved c =
    let lt : c.loop-place.place < length c.args.set.now.seats =
    omega (arith, c.loop-place-test.true, c.count.ensures.number) in
    let test : is_some c.full.result ≡ false = search rules in (
      omega (arith, lt),
      c.loop-place.invariant.1 ∙ none_here c.loop-place.place c.args.set.now.seats c.full.result lt c.full.ensures test,
    )
