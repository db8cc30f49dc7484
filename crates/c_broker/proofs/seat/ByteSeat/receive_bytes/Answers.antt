use Rattle.std.proofs.Common.{◌++◌, ap, subst, ◌∙◌}
use Rattle.broker_core.specs.declared.answers.Refused.TheVariants as refused
use Rattle.c_broker.specs.Seated.{Bytewise, begun_in, waiting}
use Rattle.c_broker.specs.Steps.{Hearing}
use Rattle.c_broker.proofs.WatchedOn.{heard_none}
use Rattle.c_broker.proofs.HeldBytes.{keeps_unless}
use Rattle.c_broker.proofs.OpenPeers.{open_heard}
use Rattle.c_broker.proofs.seat.ByteSeat.receive_bytes.Goals as goal

pub invariant_of-self-2 : goal.invariant_of-self-2
invariant_of-self-2 c =
    open_heard c.self.inside.shared c.bytes-answer.new.shared c.self.inside.ears c.bytes-answer.new.ears
    c.self.inside.open_peers.numbers.items c.self.inside.open_peers.seen c.bytes-answer.ensures.hears c.self.invariant

pub returns-in_default-clause-hears : goal.returns-in_default-clause-hears
returns-in_default-clause-hears c =
    subst (λ (v : Bytewise). Hearing v.broker v.ears c.self.inside.shared c.self.inside.ears) c.self.view_is
    (heard_none c.self.inside.shared c.self.inside.ears)

pub returns-in_default-clause-keeps : goal.returns-in_default-clause-keeps
returns-in_default-clause-keeps c =
    keeps_unless c.args.self.now.held c.reserve.new.self.entries c.args.peer
    (waiting c.args.self.now.held c.args.peer ++ c.args.piece.now) refused.NoMemory
    (λ other. ap begun_in (c.reserve.ensures.entries.2 other)
    ∙ ap (λ (v : Bytewise). waiting v.held other) c.self.view_is)

pub returns-in-Err-clause-hears : goal.returns-in-Err-clause-hears
returns-in-Err-clause-hears c =
    subst (λ (v : Bytewise). Hearing v.broker v.ears c.self.inside.shared c.self.inside.ears) c.self.view_is
    (heard_none c.self.inside.shared c.self.inside.ears)
