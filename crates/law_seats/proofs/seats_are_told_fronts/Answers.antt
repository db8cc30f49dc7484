use Rattle.law_seats.proofs.SeatsOfFronts.{told_fronts}
use Rattle.law_seats.proofs.seats_are_told_fronts.Goals as goal

pub returns : goal.returns
returns c = told_fronts
