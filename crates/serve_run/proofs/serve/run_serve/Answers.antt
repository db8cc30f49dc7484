use Rattle.std.proofs.Common.{rules}
use Rattle.serve_run.proofs.serve.run_serve.Goals as goal

pub returns-in-Err-NoMemory-clause-bad_words : goal.returns-in-Err-NoMemory-clause-bad_words
returns-in-Err-NoMemory-clause-bad_words g c = search rules
