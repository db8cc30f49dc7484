use Rattle.std.proofs.Common.{◌++◌, ◌∷◌, [], sym, ap, ◌∙◌, subst}
use Rattle.broker_audience.specs.Seated.{Roster, seated, AreSeated}
use Rattle.broker_audience.proofs.SlabIsList.{seats_more, seated_more_peers}
use Rattle.broker_audience.proofs.roster.Roster.push.Goals as goal

pub invariant_of-self : goal.invariant_of-self
invariant_of-self c =
    subst (AreSeated c.insert_reserved-key.new.self) (sym c.push_reserved.ensures.items)
    (seats_more c.self.inside.slab c.insert_reserved-key.new.self c.self.inside.places.items c.self.invariant
    c.args.peer c.args.peer.number c.args.peer.label c.insert_reserved-key.result
    c.insert_reserved-key.ensures.was_vacant c.insert_reserved-key.ensures.updates c.insert_reserved-key.ensures.len)

pub returns-clause-put : goal.returns-clause-put
returns-clause-put c =
    ap (seated c.insert_reserved-key.new.self) c.push_reserved.ensures.items
    ∙ seated_more_peers c.self.inside.slab c.insert_reserved-key.new.self c.self.inside.places.items c.self.invariant
    c.args.peer c.args.peer.number c.args.peer.label c.insert_reserved-key.result
    c.insert_reserved-key.ensures.was_vacant c.insert_reserved-key.ensures.updates c.insert_reserved-key.ensures.len
    ∙ ap (λ (v : Roster). v.items ++ c.args.peer ∷ []) c.self.view_is
