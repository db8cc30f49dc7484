use Rattle.std.proofs.Common.{◌%◌, arith}
use Rattle.std.proofs.lemmas.List.{get_or_default}
use Rattle.session_gen.specs.Rows.{row_of, rows}
use Rattle.session_gen.proofs.rows.drawn_row.Goals as goal

pub returns : goal.returns
unfolding row_of
returns c = get_or_default rows (c.args.word % 16) _ _ (omega arith)
