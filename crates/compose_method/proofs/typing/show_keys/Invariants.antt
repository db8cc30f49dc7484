use Rattle.std.proofs.Common.{◌≡◌, ◌*◌, ◌≤◌, take, string_bytes, string_len, string_capacity}
use Rattle.compose_method.specs.Table.{own_texts}
use Rattle.compose_method.proofs.typing.show_keys.Given as goal

-- the own texts of the keys so far
abbrev pub invariant-showing : goal.invariant-showing
invariant-showing l =
    (string_bytes l.text ≡ own_texts l.table (take l.key-index l.keys))
    × (string_len l.text ≤ 64 * l.key-index)
    × (string_capacity l.initial.text ≤ string_capacity l.text)
