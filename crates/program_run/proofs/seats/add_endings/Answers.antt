use Rattle.std.proofs.Common.{◌<◌, length, string_bytes, arith}
use Rattle.program_run.proofs.SeatsAtPlaces.{ending_next}
use Rattle.program_run.proofs.seats.add_endings.Goals as goal

pub loop-place-preserved : goal.loop-place-preserved
loop-place-preserved c =
    let lt : c.loop-place.place < length c.args.set.now.seats =
    omega (arith, c.loop-place-test.true, c.count.ensures.number) in (
      omega (arith, lt),
      ending_next c.loop-place.place c.entries.result c.args.set.now.seats c.full.result
          (string_bytes c.loop-place.text)
          (string_bytes c.add_ending.new.text) _ lt c.full.ensures c.entries.ensures c.in_ok-add_ending.ensures
          c.loop-place.invariant.1,
    )
