use Rattle.std.proofs.Common.{rules}
use Rattle.serve_words.proofs.serving.asked_by.Goals as goal

pub returns-clause-told : goal.returns-clause-told
returns-clause-told c = search rules
