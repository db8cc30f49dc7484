use Rattle.std.proofs.Common.{sym}
use Rattle.std.proofs.lemmas.Bool.{eqb-true}
use Rattle.std.proofs.lemmas.List.{take_rest}
use Rattle.trial_script.proofs.LinesTaken.{lines_some, lines_none, lines_last}
use Rattle.trial_script.proofs.lines.take_line.Goals as goal

pub returns-then-is_empty-clause-line : goal.returns-then-is_empty-clause-line
returns-then-is_empty-clause-line c = lines_none c.args.bytes.now (eqb-true _ _ (sym c.if-is_empty.ensures))

pub returns-in-Some-clause-line : goal.returns-in-Some-clause-line
returns-in-Some-clause-line c = rw take_rest (lines_some c.args.bytes.now c.in-Some.at (sym c.in-Some.ensures))

pub returns-in-None-clause-line : goal.returns-in-None-clause-line
returns-in-None-clause-line c = lines_last c.args.bytes.now (sym c.in-None.ensures) (sym c.if-is_empty.ensures)
