use Rattle.std.proofs.Common.{◌≡◌, ◌++◌, string_bytes}
use Rattle.trial_gen.specs.Drawn.{letter_lines, lines_text}
use Rattle.trial_gen.proofs.letters.add_letters.Given as goal

abbrev pub invariant-loop-index : goal.invariant-loop-index
invariant-loop-index l = string_bytes l.text ≡ string_bytes l.initial.text ++ lines_text (letter_lines l.index)
