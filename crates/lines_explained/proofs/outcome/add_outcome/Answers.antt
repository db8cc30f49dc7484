use Rattle.std.proofs.Common.{◌≡◌, ℕ, List, ◌++◌, OnOk, string_bytes, sym, subst}
use Rattle.std.specs.Prelude.{codes, None}
use Rattle.lines_explained.specs.declared.outcome.Outcome.{Outcome}
use Rattle.lines_explained.specs.Phrase.{phrase}
use Rattle.lines_explained.specs.Outcome.{outcome_words}
use Rattle.lines_explained.proofs.outcome.add_outcome.Goals as goal

pub returns-in-ReachedNobody : goal.returns-in-ReachedNobody
returns-in-ReachedNobody c =
    let after = c.add_phrase-in-ReachedNobody.new.line in
    let before = c.args.line.now in
    subst (λ (o : Outcome). OnOk c.add_phrase-in-ReachedNobody.result
    (string_bytes after ≡ string_bytes before ++ outcome_words o)) (sym c.in-ReachedNobody.is)
    (subst (λ (words : List ℕ). OnOk c.add_phrase-in-ReachedNobody.result
    (string_bytes after ≡ string_bytes before ++ phrase (codes ", reached nobody: ") None words None))
    c.words_of.ensures c.add_phrase-in-ReachedNobody.ensures)
