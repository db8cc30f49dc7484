use Rattle.std.proofs.Common.{ap, ◌∙◌}
use Rattle.relay_model.proofs.ActsOrIdle.{length_history}
use Rattle.relay_core.specs.Kept.{Shown}
use Rattle.relay_core.proofs.relay.Relay.acts.Goals as goal

pub returns-clause-length : goal.returns-clause-length
returns-clause-length c =
    λ log h. ap (λ (k : Shown). k.state.acts) c.self.view_is ∙ h.state.acts_now ∙ length_history log
