use Rattle.std.proofs.Common.{◌≡◌, map}
use Rattle.std.specs.Prelude.{drop}
use Rattle.session_text.specs.Words.{numbers_of}
use Rattle.session_text.proofs.NumberWords.{behind}
use Rattle.session_text.proofs.stamped_line.read_numbers.Given as goal

-- the numbers so far before those of the words that are left
abbrev pub invariant-loop-word : goal.invariant-loop-word
invariant-loop-word l =
    behind l.tokens (numbers_of (map (λ w. w.now) (drop l.word-index l.words))) ≡ numbers_of (map (λ w. w.now) l.words)
