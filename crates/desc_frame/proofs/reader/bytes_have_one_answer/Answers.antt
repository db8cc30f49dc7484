use Rattle.desc_frame.proofs.OneAnswer.{one_answer, one_frame}
use Rattle.desc_frame.proofs.reader.bytes_have_one_answer.Goals as goal

pub returns-clause-answer : goal.returns-clause-answer
returns-clause-answer c = one_answer

pub returns-clause-frame : goal.returns-clause-frame
returns-clause-frame c = one_frame
