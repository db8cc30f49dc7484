use Rattle.std.proofs.Common.{ap, ◌∙◌}
use Rattle.relay_model.specs.Idle.{history}
use Rattle.relay_core.specs.Kept.{Shown}
use Rattle.relay_objects.specs.Objects.{has_popup_in}
use Rattle.relay_core.proofs.LookUpsFind.{finds_popup}
use Rattle.relay_core.proofs.relay.Relay.has_popup.Goals as goal

pub returns : goal.returns
returns c = λ log h.
    c.has_popup.ensures ∙
    ap (λ (k : Shown). has_popup_in k.state.objects c.args.surface) c.self.view_is ∙
    finds_popup c.args.self.now.state (history log) c.args.surface h.state
