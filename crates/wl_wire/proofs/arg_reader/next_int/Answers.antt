use Rattle.std.proofs.Math.Facts.{Fits-lt-pow}
use Rattle.wl_wire.proofs.ArgumentsReadBack.{int_spelled}
use Rattle.wl_wire.proofs.arg_reader.next_int.Goals as goal

pub returns-clause-spelled : goal.returns-clause-spelled
returns-clause-spelled c = int_spelled _ _ (λ i. Fits-lt-pow (c.type_inv.bytes i)) c.int.ensures
