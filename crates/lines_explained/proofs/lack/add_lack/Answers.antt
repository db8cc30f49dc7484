use Rattle.std.proofs.Common.{◌≡◌, ℕ, List, ◌++◌, OnOk, string_bytes, sym, subst}
use Rattle.std.specs.Prelude.{codes, Option, None}
use Rattle.lines_explained.specs.declared.lack.Lack.{Lack}
use Rattle.lines_explained.specs.Phrase.{phrase}
use Rattle.lines_explained.specs.Lack.{lack_words}
use Rattle.lines_explained.proofs.lack.add_lack.Goals as goal

pub returns-in-Some : goal.returns-in-Some
returns-in-Some c =
    let after = c.add_phrase.new.line in
    let before = c.args.line.now in
    subst (λ (o : Option Lack). OnOk c.add_phrase.result
    (string_bytes after ≡ string_bytes before ++ lack_words o)) (sym c.in-Some.is)
    (subst (λ (words : List ℕ). OnOk c.add_phrase.result
    (string_bytes after ≡ string_bytes before ++ phrase (codes ", without effect: ") None words None))
    c.words_of.ensures c.add_phrase.ensures)
