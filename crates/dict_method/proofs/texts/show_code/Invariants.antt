use Rattle.std.proofs.Common.{◌≡◌, ◌*◌, ◌≤◌, take, string_bytes, string_len, string_capacity, IsTrue}
use Rattle.wl_wire.specs.Texts.{has_no_zero}
use Rattle.compose_method.specs.Table.{own_texts}
use Rattle.dict_method.proofs.texts.show_code.Given as goal

-- the own texts of the keys so far
abbrev pub invariant-showing : goal.invariant-showing
invariant-showing l =
    (string_bytes l.string ≡ own_texts l.table (take l.key-index l.code))
    × (string_len l.string ≤ 64 * l.key-index)
    × (string_capacity l.initial.string ≤ string_capacity l.string)
    × IsTrue (has_no_zero (string_bytes l.string))
