use Rattle.std.proofs.Common.{sym, ◌∙◌}
use Rattle.broker_steps.specs.declared.step.PeerStep.TheVariants as peers
use Rattle.seat_set.proofs.WholePieces.{whole_played}
use Rattle.seat_set.proofs.session.Session.bytes.Goals as goal

pub message-requires-clause-short : goal.message-requires-clause-short
message-requires-clause-short g c = c.in-Some.ensures.finds.valid.0

pub returns-in-Some-clause-played : goal.returns-in-Some-clause-played
returns-in-Some-clause-played g c =
    whole_played c.args.self.now c.message.new.self c.args.number c.args.piece.now
    (peers.Message c.in-Some.raw.id c.in-Some.raw.opcode c.in-Some.raw.body.now) c.message.result
    (sym c.lives.ensures.value ∙ c.if-lives.true) c.in-Some.ensures c.message.ensures.played
