use Rattle.std.proofs.Common.{refl}
use Rattle.relay_model.proofs.rows.board_rows.Goals as goal

pub returns-clause-own_keys_pass : goal.returns-clause-own_keys_pass
returns-clause-own_keys_pass c = refl

pub returns-clause-no_keymap : goal.returns-clause-no_keymap
returns-clause-no_keymap c = refl

pub returns-clause-releases_follow : goal.returns-clause-releases_follow
returns-clause-releases_follow c = refl
