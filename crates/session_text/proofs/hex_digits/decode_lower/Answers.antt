use Rattle.std.proofs.Common.{refl, arith}
use Rattle.std.proofs.Math.Facts.{Fits-lt-pow}
use Rattle.hex.specs.Hex.{encode_with}
use Rattle.session_text.proofs.hex_digits.decode_lower.Goals as goal

pub fours-init : goal.fours-init
unfolding encode_with
fours-init c =
    record { long = refl; within = omega arith; bytes = λ i. Fits-lt-pow (c.type_inv.bytes i); read = λ small. refl }
