use Rattle.std.proofs.Common.{rules}
use Rattle.program_gen.proofs.tally.TallyWatch.put.Goals as goal

pub returns : goal.returns
returns c = search rules
