use Rattle.std.proofs.Common.{rules}
use Rattle.popup_place.proofs.SumsFit.{fits_is}
use Rattle.popup_place.proofs.popup.fits_at.Goals as goal

pub returns-then-y-ge0 : goal.returns-then-y-ge0
returns-then-y-ge0 c =
    fits_is c.args.y c.args.size.height c.args.screen.height c.ranges.y (search rules) (search rules) c.if-y-ge0.true
