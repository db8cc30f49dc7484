use Rattle.std.proofs.Common.{refl, ◌∙◌}
use Rattle.serial_count.proofs.DonesAgo.{fresh_by_distance}
use Rattle.serial_count.proofs.freshness.fresh.Goals as goal

pub returns-clause-search : goal.returns-clause-search
returns-clause-search c k j within count since =
    fresh_by_distance k j c.args.serial c.get.result c.get-2.result _ c.ranges.serial.fits within
    (c.get.ensures ∙ count) (c.get-2.ensures.number ∙ since) refl
