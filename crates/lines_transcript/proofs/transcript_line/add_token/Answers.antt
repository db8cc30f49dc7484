use Rattle.std.proofs.Common.{◌≡◌, ◌∷◌, ◌++◌, refl, sym, subst, rules, arith}
use Rattle.std.specs.Prelude.{IsTrue}
use Rattle.std.specs.Fmt.{decimal}
use Rattle.std.specs.String.{string_bytes}
use Rattle.wl_wire.specs.Texts.{has_no_zero}
use Rattle.std.proofs.lemmas.List.Folds.{list_all-append}
use Rattle.std.proofs.lemmas.Grind.{common_steps}
use Rattle.session_text.proofs.LinesSplit.{zero, decimal_lacks}
use Rattle.lines_transcript.proofs.PrintedLines.{number_clean}
use Rattle.lines_transcript.proofs.transcript_line.add_token.Goals as goal

pub add_word-requires-clause-word_clean : goal.add_word-requires-clause-word_clean
add_word-requires-clause-word_clean c =
    let word : c.format.result.now ≡ decimal c.args.offset = search rules in
    rw word (decimal_lacks 0 zero c.args.offset (search rules))

pub returns-clause-clean : goal.returns-clause-clean
returns-clause-clean c =
    let is : string_bytes c.push_str.new.self ≡ string_bytes c.add_word.new.line ++ 58 ∷ decimal c.args.token =
    grind (arith, common_steps) in
    subst (λ b. IsTrue (has_no_zero b)) (sym is)
    (rw (list_all-append, c.in_ok-add_word.ensures.clean, number_clean c.args.token (search rules)) refl)
