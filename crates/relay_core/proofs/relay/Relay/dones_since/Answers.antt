use Rattle.std.proofs.Common.{ap, ◌∙◌}
use Rattle.relay_core.specs.Kept.{Shown}
use Rattle.relay_core.proofs.relay.Relay.dones_since.Goals as goal

pub returns : goal.returns
returns c =
    λ log h. c.get.ensures.number ∙ ap (λ (k : Shown). k.state.since) c.self.view_is ∙ h.state.served_now.since_now
