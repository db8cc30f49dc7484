use Rattle.std.proofs.Common.{arith}
use Rattle.std.specs.Int.{w64}
use Rattle.std.proofs.lemmas.Nat.Bits.{bit_at_set_same, bit_at_set_other}
use Rattle.hub_lock.specs.Bells.{bell}
use Rattle.hub_lock.proofs.rings.Rings.ring.Goals as goal

pub returns-clause-same : goal.returns-clause-same
returns-clause-same c = bit_at_set_same w64 c.args.self.now.bits (bell c.args.peer) (omega arith)

pub returns-clause-other : goal.returns-clause-other
returns-clause-other c k apart = bit_at_set_other w64 c.args.self.now.bits (bell c.args.peer) (omega arith) k apart
