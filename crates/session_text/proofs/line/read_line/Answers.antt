use Rattle.std.proofs.Common.{arith}
use Rattle.std.proofs.lemmas.Grind.{common_steps}
use Rattle.session_text.specs.Reading.{line_of, Reads}
use Rattle.session_text.proofs.LinesReadBack.{read_is_line}
use Rattle.session_text.proofs.line.read_line.Goals as goal

pub returns-clause-valid : goal.returns-clause-valid
unfolding line_of
returns-clause-valid c =
    let read : Reads c.read_split.result (line_of c.args.form c.args.line.now) = grind (arith, common_steps) in
    read_is_line c.args.form c.args.line.now c.read_split.result read
