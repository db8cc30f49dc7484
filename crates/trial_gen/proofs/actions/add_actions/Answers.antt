use Rattle.std.proofs.Common.{◌∙◌}
use Rattle.session_gen.proofs.WordsInTurn.{seeded, word_is, later_is}
use Rattle.trial_gen.proofs.TextsGrow.{no_actions, action_grows}
use Rattle.trial_gen.proofs.actions.add_actions.Goals as goal

pub loop-made-init : goal.loop-made-init
loop-made-init c = record {
  text = no_actions c.args.number _;
  words = c.seed_from_u64-words.ensures ∙ seeded c.args.number;
}

pub loop-made-preserved : goal.loop-made-preserved
loop-made-preserved c =
    let n = c.args.number in
    let made = c.loop-made.made in
    let at = c.loop-made.invariant.words in
    let word = word_is n made _ _ _ at c.next_word-word.ensures in
    record {
      text = action_grows n made _ _ _ _ word c.loop-made.invariant.text c.in_ok-add_action.ensures;
      words = later_is n made _ _ _ at c.next_word-word.ensures;
    }
