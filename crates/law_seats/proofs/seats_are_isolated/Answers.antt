use Rattle.law_seats.proofs.SeatsAlone.{isolated}
use Rattle.law_seats.proofs.seats_are_isolated.Goals as goal

pub returns : goal.returns
returns c = isolated
