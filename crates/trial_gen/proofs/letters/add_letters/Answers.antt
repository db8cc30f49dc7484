use Rattle.trial_gen.proofs.TextsGrow.{no_letters, letter_grows}
use Rattle.trial_gen.proofs.letters.add_letters.Goals as goal

pub loop-index-init : goal.loop-index-init
loop-index-init c = no_letters _

pub loop-index-preserved : goal.loop-index-preserved
loop-index-preserved c = letter_grows _ _ _ c.loop-index.index c.loop-index.invariant c.in_ok-add_letter.ensures
