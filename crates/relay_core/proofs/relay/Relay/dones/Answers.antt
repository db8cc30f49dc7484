use Rattle.std.proofs.Common.{ap, ◌∙◌}
use Rattle.relay_core.specs.Kept.{Shown}
use Rattle.relay_core.proofs.relay.Relay.dones.Goals as goal

pub returns : goal.returns
returns c = λ log h. c.get.ensures ∙ ap (λ (k : Shown). k.state.dones) c.self.view_is ∙ h.state.served_now.dones_now
