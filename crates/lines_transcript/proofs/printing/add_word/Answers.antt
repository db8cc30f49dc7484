use Rattle.std.proofs.Common.{◌≡◌, ◌∷◌, ◌++◌, sym, subst, arith}
use Rattle.std.specs.Prelude.{IsTrue}
use Rattle.std.proofs.lemmas.Grind.{common_steps}
use Rattle.std.specs.String.{string_bytes}
use Rattle.wl_wire.specs.Texts.{has_no_zero}
use Rattle.lines_transcript.proofs.PrintedLines.{word_clean}
use Rattle.lines_transcript.proofs.printing.add_word.Goals as goal

pub returns : goal.returns
returns c =
    let added : string_bytes c.push_str.new.self ≡ string_bytes c.args.line.now ++ 32 ∷ c.args.word.now =
    grind (arith, common_steps) in
    let clean = word_clean (string_bytes c.args.line.now) c.args.word.now c.requires.line_clean c.requires.word_clean in
    record { added = added; clean = subst (λ b. IsTrue (has_no_zero b)) (sym added) clean }
