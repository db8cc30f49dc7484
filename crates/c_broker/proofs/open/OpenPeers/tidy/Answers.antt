use Rattle.std.proofs.Common.{rules}
use Rattle.c_broker.proofs.OpenNumbers.{open_left}
use Rattle.c_broker.proofs.open.OpenPeers.tidy.Goals as goal

pub returns-then-self-len : goal.returns-then-self-len
returns-then-self-len c o =
    open_left _ c.args.shared.now _ (λ x kept q k. search rules) c.args.self.now.numbers.items
    c.retain.new.self.items c.args.self.now.seen c.retain.ensures.filtered o
