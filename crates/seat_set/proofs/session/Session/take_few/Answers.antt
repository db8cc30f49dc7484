use Rattle.std.proofs.Common.{rules}
use Rattle.seat_set.proofs.session.Session.take_few.Goals as goal

pub take_into-requires-clause-enough : goal.take_into-requires-clause-enough
take_into-requires-clause-enough g c = search rules
