use Rattle.std.proofs.Common.{refl}
use Rattle.hub_calls.proofs.StepsRefused.{none_made}
use Rattle.hub_calls.proofs.submit.submit_message.Goals as goal

pub returns-in_default-clause-made : goal.returns-in_default-clause-made
returns-in_default-clause-made g c = none_made c.args.pass.now c.args.pass.now _ (λ next. Unit {0}) refl tt
