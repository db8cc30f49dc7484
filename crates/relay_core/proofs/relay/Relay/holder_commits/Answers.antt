use Rattle.std.proofs.Common.{ap, ◌∙◌}
use Rattle.std.specs.Prelude.{option_map}
use Rattle.relay_model.specs.Idle.{history}
use Rattle.relay_model.proofs.ActsOrIdle.{history_is}
use Rattle.relay_objects.specs.Objects.{find, count_in}
use Rattle.relay_core.specs.Kept.{Shown}
use Rattle.relay_core.proofs.LookUpsFind.{holder_count_is}
use Rattle.relay_core.proofs.relay.Relay.holder_commits.Goals as goal

pub returns : goal.returns
returns c = λ log h.
    c.holder_commits.ensures
    ∙ ap (λ (k : Shown). option_map (λ f. count_in (find k.state.objects f)) k.state.holder) c.self.view_is ∙
    holder_count_is c.args.self.now.state (history log) h.state (history_is log)
