use Rattle.program_gen.proofs.RunGoesOn.{first_stands}
use Rattle.program_gen.proofs.running.Run.new.Goals as goal

pub returns-clause-stands : goal.returns-clause-stands
returns-clause-stands c = first_stands _ c.args.number c.new.ensures c.in_ok-new.ensures c.new-3.ensures
