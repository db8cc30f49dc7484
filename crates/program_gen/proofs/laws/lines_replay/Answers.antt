use Rattle.program_gen.proofs.LinesReplayed.{lines_replay}
use Rattle.program_gen.proofs.laws.lines_replay.Goals as goal

pub returns : goal.returns
returns c = record { law = lines_replay }
