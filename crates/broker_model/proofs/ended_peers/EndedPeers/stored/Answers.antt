use Rattle.std.proofs.Common.{List, length, Option, ap, sym, ◌∙◌}
use Rattle.broker_model.specs.declared.left.Left.{Left}
use Rattle.broker_model.specs.Ends.{Ended, Ends, cells_in, cells_left, store_at}
use Rattle.broker_model.proofs.PeersLeft.{IsOver, who_ended}
use Rattle.broker_model.proofs.ended_peers.EndedPeers.stored.Goals as goal

pub returns : goal.returns
returns c =
    let it : IsOver c.self.inside.causes.items c.self.inside.left.items c.args.number c.args.self.now.items =
    who_ended c.self.inside.causes.items c.self.inside.left.items c.args.number c.args.self.now.items
    (ap (λ (e : Ends). e.items) c.self.view_is) c.requires.number c.requires.ended in
    c.stored_in.ensures
    ∙ ap (λ (left : List Left). length (cells_in (store_at c.args.number left))) c.deref.ensures.value
    ∙ sym (ap (λ (e : Option Ended). length (cells_left e)) it.is)
