use Rattle.std.proofs.Common.{◌≡◌, ◌∷◌, ◌++◌, ◌^◌, ◌<◌, ◌∙◌, map, ap, sym, rules}
use Rattle.std.proofs.lemmas.List.Elements.{All-from_get_or}
use Rattle.std.proofs.Math.Facts.{Fits-lt-pow}
use Rattle.std.specs.Prelude.{All, codes}
use Rattle.std.specs.String.{string_bytes}
use Rattle.std.specs.Fmt.{decimal}
use Rattle.lines_transcript.specs.Told.{spaced}
use Rattle.lines_transcript.proofs.PrintedLines.{number_clean, join-spaced}
use Rattle.lines_transcript.proofs.step_line.tokens_line.Goals as goal

pub add_numbers-requires-clause-name_clean : goal.add_numbers-requires-clause-name_clean
add_numbers-requires-clause-name_clean c =
    let word : c.format.result.now ≡ decimal c.args.peer = search rules in
    rw word (number_clean c.args.peer (search rules))

pub returns : goal.returns
returns c =
    let word : c.format.result.now ≡ decimal c.args.peer = search rules in
    let name : string_bytes c.in_ok-line.line ≡ codes "tokens" = search rules in
    let small : All (λ token. token < 2 ^ 32) c.args.tokens.now =
    All-from_get_or (λ token. token < 2 ^ 32) c.args.tokens.now 0 (λ i within. Fits-lt-pow (c.type_inv.tokens i)) in (
      c.in_ok-add_numbers.ensures.added
          ∙ ap (λ l. l ++ spaced (c.format.result.now ∷ map decimal c.args.tokens.now)) name
          ∙ ap (λ w. codes "tokens" ++ spaced (w ∷ map decimal c.args.tokens.now)) word
          ∙ sym (join-spaced (codes "tokens") (decimal c.args.peer ∷ map decimal c.args.tokens.now)),
      (search rules, (c.requires, small)),
    )
