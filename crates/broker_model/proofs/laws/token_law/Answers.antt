use Rattle.broker_model.proofs.FewTokensWait.{few_wait, keymaps_take}
use Rattle.broker_model.proofs.laws.token_law.Goals as goal

pub returns-clause-few : goal.returns-clause-few
returns-clause-few c = few_wait

pub returns-clause-keymaps_take : goal.returns-clause-keymaps_take
returns-clause-keymaps_take c = keymaps_take
