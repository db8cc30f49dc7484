use Rattle.std.proofs.Common.{◌++◌, ◌∷◌, [], ap, ◌∙◌, arith, length-append}
use Rattle.c_relay.specs.Waiting.{Waiting}
use Rattle.c_relay.proofs.EventsWithTexts.{heard_push, lengths_push}
use Rattle.c_relay.proofs.queue.Queue.put.Goals as goal

pub invariant_of-self : goal.invariant_of-self
invariant_of-self c =
    rw (c.push.ensures, c.append.ensures)
    (omega (
      arith,
      c.requires,
      c.self.invariant,
      lengths_push c.self.inside.events.items c.args.event,
      length-append c.self.inside.texts.items c.args.text.now,
    ))

pub returns-clause-gained : goal.returns-clause-gained
returns-clause-gained c = λ p q.
    rw (c.push.ensures, c.append.ensures)
    (heard_push c.self.inside.events.items c.self.inside.texts.items c.args.event c.args.text.now c.self.invariant
    c.requires ∙
    ap (λ (w : Waiting). w.heard ++ record { event = c.args.event; text = c.args.text.now } ∷ []) c.self.view_is)
