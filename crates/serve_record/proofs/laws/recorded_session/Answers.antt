use Rattle.std.proofs.Common.{refl}
use Rattle.std.specs.Fmt.{digits}
use Rattle.serve_record.proofs.laws.recorded_session.Goals as goal

pub returns : goal.returns
unfolding digits
returns c = record { row = refl }
