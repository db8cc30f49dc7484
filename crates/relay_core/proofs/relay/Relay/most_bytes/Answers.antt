use Rattle.std.proofs.Common.{◌+◌, length, ap, ◌∙◌}
use Rattle.relay_core.specs.Kept.{Shown}
use Rattle.relay_core.proofs.ToldRooms.{if_some, told_short}
use Rattle.relay_core.proofs.relay.Relay.most_bytes.Goals as goal

pub returns : goal.returns
returns c =
    if_some c.spare_bytes.result _ _
    (λ n e log act h r. told_short c.args.self.now log act n h r.spare
    (e ∙ ap (λ (k : Shown). length k.spare.text + length k.spare.preedit) c.self.view_is))
    c.spare_bytes.ensures
