use Rattle.std.proofs.Common.{ap, ◌∙◌}
use Rattle.relay_core.specs.Bounds.{most_told}
use Rattle.relay_core.specs.Kept.{Shown}
use Rattle.relay_core.proofs.ToldRooms.{if_some, told_few}
use Rattle.relay_core.proofs.relay.Relay.most_told.Goals as goal

pub returns : goal.returns
returns c =
    if_some c.most_told.result _ _
    (λ n e log h. told_few c.args.self.now log c.args.act.now n h
    (e ∙ ap (λ (k : Shown). most_told c.args.act.now k.state) c.self.view_is))
    c.most_told.ensures
