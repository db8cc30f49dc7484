use Rattle.trial_threads.proofs.PassesBack.{method_took}
use Rattle.trial_threads.proofs.collect.take_back_method.Goals as goal

pub returns-clause-back : goal.returns-clause-back
returns-clause-back c = method_took c.args.root.now c.give_back.new.root c.args.job c.give_back.ensures
