-- Digits in lower case are read as the bytes that they spell.
use Rattle.std.proofs.Common.{◌≡◌, ℕ, ◌≤◌, List, [], ◌∷◌, length, Some, ap, ◌∙◌, arith}
use Rattle.hex.specs.Hex.{encode_lower}
use Rattle.wl_wire.specs.Texts.{IsBytes}
use Rattle.session_text.specs.Words.{bytes_of}
use Rattle.session_text.proofs.WordsAreTexts.{bytes_complete}

-- digits in lower case spell bytes
pub lower_read : (limit : ℕ) (word bytes : List ℕ) → IsBytes bytes → 1 ≤ length bytes → length bytes ≤ limit →
    word ≡ encode_lower bytes → bytes_of limit word ≡ Some bytes
lower_read limit word [] all some few e = absurd (omega arith)
lower_read limit word (b ∷ bytes) all some few e =
    ap (bytes_of limit) e ∙ bytes_complete limit (b ∷ bytes) (all, some, few)
