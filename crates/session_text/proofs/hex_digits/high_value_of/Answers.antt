use Rattle.std.proofs.Common.{◌≡◌, ◌*◌, map, refl, ap, ◌∙◌, get_or, arith}
use Rattle.std.specs.List.{range_with_len}
use Rattle.std.proofs.lemmas.List.FromFn.{get_or-map-range_with_len}
use Rattle.session_text.specs.Words.{value_of}
use Rattle.session_text.specs.declared.hex_digits.TheConstants.{HIGH_VALUES}
use Rattle.session_text.proofs.hex_digits.high_value_of.Goals as goal

-- the table has sixteen times the value of each byte
table : HIGH_VALUES ≡ map (λ c. 16 * value_of c) (range_with_len 0 256)
table = refl

pub returns : goal.returns
returns c = ap (λ t. get_or t c.args.digit 0) table
    ∙ get_or-map-range_with_len (λ c. 16 * value_of c) 0 256 c.args.digit c.args.digit 0 (omega arith) (omega arith)
