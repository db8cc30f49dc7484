-- Who has the seat, as the program keeps it.
use Rattle.std.specs.Prelude.{List}
use Rattle.relay_model.specs.declared.act.Act.{Act}
use Rattle.relay_model.specs.Hold.{holder}
use Rattle.relay_model.specs.Activation.{serving}
use Rattle.relay_plain.specs.Newest.{at_newest}
use Rattle.relay_plain.specs.declared.seat.Seat.{Seat}

-- the holder and the serving method of a history
abbrev pub seat_of : List Act → Seat
seat_of log = record { holder = holder log; serving = serving log }

-- the same before the newest act, or another where there is no act
abbrev pub seat_before : List Act → Seat → Seat
seat_before log none = at_newest (λ act older. seat_of older) none log
