use Rattle.law_record.proofs.FewLegal.{few_are_legal}
use Rattle.law_record.proofs.few_steps_are_legal.Goals as goal

pub returns : goal.returns
returns c = record { row = few_are_legal }
