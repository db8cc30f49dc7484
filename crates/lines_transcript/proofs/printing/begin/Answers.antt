use Rattle.std.proofs.Common.{◌≡◌, sym, subst, rules}
use Rattle.std.specs.Prelude.{IsTrue}
use Rattle.std.specs.Fmt.{decimal}
use Rattle.std.specs.String.{string_bytes}
use Rattle.wl_wire.specs.Texts.{has_no_zero}
use Rattle.lines_transcript.proofs.PrintedLines.{number_clean}
use Rattle.lines_transcript.proofs.printing.begin.Goals as goal

pub returns-clause-clean : goal.returns-clause-clean
returns-clause-clean c =
    let is : string_bytes c.push_str.new.self ≡ decimal c.args.number = search rules in
    subst (λ b. IsTrue (has_no_zero b)) (sym is) (number_clean c.args.number (search rules))
