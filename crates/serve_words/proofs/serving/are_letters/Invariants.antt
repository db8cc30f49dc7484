use Rattle.std.proofs.Common.{◌≡◌, drop}
use Rattle.serve_words.specs.Words.{are_letters}
use Rattle.serve_words.proofs.serving.are_letters.Given as goal

abbrev pub invariant-loop-letter : goal.invariant-loop-letter
invariant-loop-letter l = are_letters l.letters ≡ are_letters (drop l.letter-index l.letters)
