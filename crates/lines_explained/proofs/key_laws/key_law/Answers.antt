use Rattle.lines_explained.proofs.KeysSent.{keys_routed, board_keys_routed, past_has_no_press, nowhere_has_fallen}
use Rattle.lines_explained.proofs.key_laws.key_law.Goals as goal

pub returns-clause-keys : goal.returns-clause-keys
returns-clause-keys c = keys_routed

pub returns-clause-boards : goal.returns-clause-boards
returns-clause-boards c = board_keys_routed

pub returns-clause-past : goal.returns-clause-past
returns-clause-past c = past_has_no_press

pub returns-clause-nowhere : goal.returns-clause-nowhere
returns-clause-nowhere c = nowhere_has_fallen
