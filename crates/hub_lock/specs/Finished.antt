-- A pass that is given back
use Rattle.hub_lock.specs.declared.pass.Pass.{Pass}
use Rattle.hub_lock.specs.declared.pass.Pass.TheVariants as passes
use Rattle.hub_lock.specs.Passes.{PassSeat}

-- the seat of a pass that is given back
abbrev pub seat_of : Pass → PassSeat
seat_of (passes.Reader p) = p.seat
seat_of (passes.Writer p) = p.seat
seat_of (passes.Shell s) = s
seat_of (passes.Recorder p) = p.seat
