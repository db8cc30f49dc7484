use Rattle.std.proofs.Common.{rules}
use Rattle.lines_transcript.proofs.transcript_line.write_out.Goals as goal

pub write_group-requires-clause-few : goal.write_group-requires-clause-few
write_group-requires-clause-few c = search rules
