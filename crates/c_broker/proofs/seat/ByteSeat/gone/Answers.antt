use Rattle.std.proofs.Common.{sym, subst}
use Rattle.c_broker.specs.Seated.{Bytewise}
use Rattle.c_broker.specs.Steps.{Hearing}
use Rattle.c_broker.proofs.WatchedOn.{heard_let}
use Rattle.c_broker.proofs.seat.ByteSeat.gone.Goals as goal

pub returns-in-Ok-clause-told : goal.returns-in-Ok-clause-told
returns-in-Ok-clause-told c =
    subst (λ (v : Bytewise). Hearing c.args.self.now.broker c.args.self.now.ears v.broker v.ears)
    (sym c.note.ensures.same)
    (heard_let c.args.self.now.broker c.end.new.self.broker c.let_go.new.self.broker c.args.self.now.ears
    c.end.new.self.ears c.let_go.new.self.ears c.let_go.ensures.gone c.let_go.ensures.ears c.end.ensures.told)
