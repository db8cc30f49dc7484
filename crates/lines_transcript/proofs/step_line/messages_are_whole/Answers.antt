use Rattle.lines_transcript.proofs.PrintedStepsHold.{message_whole}
use Rattle.lines_transcript.proofs.step_line.messages_are_whole.Goals as goal

pub returns : goal.returns
returns c = message_whole
