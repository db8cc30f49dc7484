use Rattle.std.proofs.Common.{◌≡◌, [], ◌∷◌, ◌++◌, rules}
use Rattle.std.specs.Prelude.{codes}
use Rattle.std.specs.Fmt.{decimal}
use Rattle.std.specs.String.{string_bytes}
use Rattle.std.proofs.lemmas.Result.{on_ok_weaker}
use Rattle.wl_proto.specs.Names.{name_of}
use Rattle.lines_transcript.proofs.PrintedLines.{number_clean, spaced_last}
use Rattle.lines_transcript.proofs.told_line.add_global.Goals as goal

pub add_word-requires-2-clause-word_clean : goal.add_word-requires-2-clause-word_clean
add_word-requires-2-clause-word_clean c =
    let word : c.format.result.now ≡ decimal c.args.version = search rules in
    rw word (number_clean c.args.version (search rules))

pub returns : goal.returns
returns c =
    let front = codes "global" ∷ decimal c.args.name ∷ [] in
    let line = string_bytes c.args.line.now in
    let interface : c.name.result.now ≡ name_of c.args.interface = c.name.ensures.name in
    let version : c.format.result.now ≡ decimal c.args.version = search rules in
    let first = spaced_last front (name_of c.args.interface) line _ _ c.in_ok-add_numbers.ensures.added
    (rw interface at c.in_ok-add_word.ensures.added) in
    record {
      added = on_ok_weaker c.add_word-2.result
          (λ (added : string_bytes c.add_word-2.new.line
          ≡ string_bytes c.add_word.new.line ++ 32 ∷ c.format.result.now).
          spaced_last (codes "global" ∷ decimal c.args.name ∷ name_of c.args.interface ∷ [])
          (decimal c.args.version) line _ _ first (rw version at added))
          c.add_word-2.ensures.added;
      clean = c.add_word-2.ensures.clean;
    }
