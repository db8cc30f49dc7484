use Rattle.std.proofs.Common.{◌≡◌, map, refl, ap, ◌∙◌, get_or, arith}
use Rattle.std.specs.List.{range_with_len}
use Rattle.std.proofs.lemmas.List.FromFn.{get_or-map-range_with_len}
use Rattle.session_text.specs.Words.{value_of}
use Rattle.session_text.specs.declared.hex_digits.TheConstants.{VALUES}
use Rattle.session_text.proofs.hex_digits.value_of.Goals as goal

-- the table has the value of each byte
table : VALUES ≡ map value_of (range_with_len 0 256)
table = refl

pub returns : goal.returns
returns c = ap (λ t. get_or t c.args.digit 0) table
    ∙ get_or-map-range_with_len value_of 0 256 c.args.digit c.args.digit 0 (omega arith) (omega arith)
