use Rattle.std.proofs.Common.{sym, ap, ◌∙◌}
use Rattle.wl_wire.specs.Streams.{Assembly, begun}
use Rattle.broker_cutter.proofs.FirstSteps.{front_message}
use Rattle.broker_cutter.proofs.cutter.Cutter.front.Goals as goal

pub returns-in-Whole : goal.returns-in-Whole
returns-in-Whole c =
    front_message c.in-Whole.raw.id c.in-Whole.raw.opcode c.in-Whole.used (begun c.args.self.now) c.args.piece.now
    c.in-Whole.raw.body.now
    (ap (λ (a : Assembly). begun a) (sym c.self.view_is) ∙ c.self.invariant c.if-self.true) c.in-Whole.ensures.front
