use Rattle.std.proofs.Common.{ap, ◌∙◌}
use Rattle.relay_model.specs.Idle.{history}
use Rattle.relay_core.specs.Kept.{Shown}
use Rattle.relay_core.proofs.KeyboardAfterActs.{standing_is}
use Rattle.relay_core.proofs.relay.Relay.standing.Goals as goal

pub returns : goal.returns
returns c = λ log h.
    c.standing.ensures.now ∙ ap (λ (k : Shown). k.state.keys.standing) c.self.view_is ∙
    standing_is c.args.self.now.state (history log) h.state
