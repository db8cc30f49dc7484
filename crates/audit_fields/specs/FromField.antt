-- Bytes from their first field message on.
use Rattle.std.specs.Prelude.{ℕ, ◌+◌, List, [], ◌∷◌, length, drop, if◌then◌else◌}
use Rattle.wl_wire.specs.Messages.{opcode_of, messages}
use Rattle.audit_fields.specs.Heard.{is_field_opcode}

-- how many bytes the messages have that stand before the first field message
abbrev pub before_field : List (List ℕ) → ℕ
before_field [] = 0
before_field (m ∷ ms) =
    (if is_field_opcode (opcode_of m) then 0 else length m + before_field ms)

-- the bytes without those: the first whole message is a field message, or none is whole
unfoldable pub from_field : List ℕ → List ℕ
from_field bytes = drop (before_field (messages bytes)) bytes
