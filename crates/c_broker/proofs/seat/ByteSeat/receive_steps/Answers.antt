use Rattle.std.proofs.Common.{◌++◌, subst}
use Rattle.broker_cutter.specs.Steps.{steps_in}
use Rattle.c_broker.specs.Seated.{Held, token_steps, waiting}
use Rattle.c_broker.specs.Steps.{Plays}
use Rattle.c_broker.proofs.StepsLead.{plays_on, tokens_stop}
use Rattle.c_broker.proofs.WatchedOn.{heard_both}
use Rattle.c_broker.proofs.HeldBytes.{keeps_none}
use Rattle.c_broker.proofs.seat.ByteSeat.receive_steps.Goals as goal

pub returns-in-Ok-clause-plays : goal.returns-in-Ok-clause-plays
returns-in-Ok-clause-plays c =
    let mid = c.receive_tokens.new.self in
    let later = subst (λ (h : Held). Plays c.args.peer c.args.stamp
    (steps_in c.args.peer (waiting h c.args.peer ++ c.args.piece.now)) mid.broker c.receive_bytes.result
    c.receive_bytes.new.self.broker) c.in-Ok.ensures.held c.receive_bytes.ensures.plays in
    plays_on c.args.peer c.args.stamp (token_steps c.args.peer c.args.sent.now)
    (steps_in c.args.peer (waiting c.args.self.now.held c.args.peer ++ c.args.piece.now)) c.args.self.now.broker
    mid.broker c.receive_bytes.new.self.broker c.receive_bytes.result c.in-Ok.ensures.plays later

pub returns-in-Ok-clause-hears : goal.returns-in-Ok-clause-hears
returns-in-Ok-clause-hears c =
    heard_both c.args.self.now.broker c.receive_tokens.new.self.broker c.receive_bytes.new.self.broker
    c.args.self.now.ears c.receive_tokens.new.self.ears c.receive_bytes.new.self.ears c.receive_tokens.ensures.hears
    c.receive_bytes.ensures.hears

pub returns-in-Err-clause-plays : goal.returns-in-Err-clause-plays
returns-in-Err-clause-plays c =
    tokens_stop c.args.peer c.args.stamp c.args.sent.now
    (steps_in c.args.peer (waiting c.args.self.now.held c.args.peer ++ c.args.piece.now)) c.args.self.now.broker
    c.receive_tokens.new.self.broker c.in-Err.why c.in-Err.ensures.plays

pub returns-in-Err-clause-keeps : goal.returns-in-Err-clause-keeps
returns-in-Err-clause-keeps c =
    keeps_none c.args.self.now.held c.receive_tokens.new.self.held c.args.peer
    (waiting c.args.self.now.held c.args.peer ++ c.args.piece.now) c.in-Err.why c.in-Err.ensures.held
