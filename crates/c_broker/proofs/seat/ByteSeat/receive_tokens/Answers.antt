use Rattle.c_broker.proofs.WatchedOn.{heard_none}
use Rattle.c_broker.proofs.OpenPeers.{open_heard}
use Rattle.c_broker.proofs.seat.ByteSeat.receive_tokens.Goals as goal

pub invariant_of-self : goal.invariant_of-self
invariant_of-self c =
    open_heard c.self.inside.shared c.tokens.new.shared c.self.inside.ears c.tokens.new.ears
    c.self.inside.open_peers.numbers.items c.self.inside.open_peers.seen c.tokens.ensures.hears c.self.invariant

pub returns-then-is_empty-clause-hears : goal.returns-then-is_empty-clause-hears
returns-then-is_empty-clause-hears c = heard_none c.args.self.now.broker c.args.self.now.ears
