use Rattle.trial_gen.proofs.TextsGrow.{gathered}
use Rattle.trial_gen.proofs.script.drawn_script.Goals as goal

pub returns : goal.returns
returns c =
    gathered c.args.number _ _ _ _ _ c.in_ok-text.ensures.ok c.in_ok-add_letters.ensures c.in_ok-add_fields.ensures
    c.in_ok-add_actions.ensures c.in_ok-push_str.ensures.bytes
