use Rattle.std.proofs.Common.{arith}
use Rattle.std.proofs.lemmas.Grind.{common_steps}
use Rattle.session_text.specs.Reading.{Reads}
use Rattle.trial_script.specs.Reading.{line_of}
use Rattle.trial_script.proofs.ScriptsReadBack.{read_is_line}
use Rattle.trial_script.proofs.line.read_line.Goals as goal

pub returns-clause-valid : goal.returns-clause-valid
unfolding line_of
returns-clause-valid c =
    let read : Reads c.read_words.result (line_of c.args.line.now) = grind (arith, common_steps) in
    read_is_line c.args.line.now c.read_words.result read
