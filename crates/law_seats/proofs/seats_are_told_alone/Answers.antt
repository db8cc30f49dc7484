use Rattle.law_seats.proofs.SeatsAlone.{told_alone}
use Rattle.law_seats.proofs.seats_are_told_alone.Goals as goal

pub returns : goal.returns
returns c = told_alone
