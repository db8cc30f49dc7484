use Rattle.c_broker.proofs.seat.ByteSeat.note.Goals as goal

pub invariant_of-self : goal.invariant_of-self
invariant_of-self c = c.tidy.ensures (c.note.ensures c.self.inside.shared c.self.invariant)
