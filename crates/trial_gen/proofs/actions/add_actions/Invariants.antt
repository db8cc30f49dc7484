use Rattle.std.proofs.Common.{◌≡◌, ◌++◌, string_bytes}
use Rattle.session_gen.specs.Generated.{generator_after}
use Rattle.trial_gen.specs.Drawn.{action_lines, lines_text}
use Rattle.trial_gen.proofs.actions.add_actions.Given as goal

abbrev pub invariant-loop-made : goal.invariant-loop-made
invariant-loop-made l = record {
  text : string_bytes l.text ≡ string_bytes l.initial.text ++ lines_text (action_lines l.number l.made);
  words : l.words ≡ generator_after l.number l.made;
}
