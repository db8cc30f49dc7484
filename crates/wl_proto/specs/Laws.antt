-- The laws of every row.
use Rattle.std.specs.Prelude.{◌≡◌, ℕ, ◌+◌, ◌^◌, ◌<◌, ◌≤◌, List, Option, Some}
use Rattle.std.specs.List.Sorted.{IsStrictlyIncreasing}
use Rattle.wl_wire.specs.Messages.{IsMessage, id_of, opcode_of, body_of}
use Rattle.wl_proto.specs.declared.table.Kind.{Kind}
use Rattle.wl_proto.specs.declared.table.Sig.{Sig}
use Rattle.wl_proto.specs.declared.interface.Interface.{Interface}
use Rattle.wl_proto.specs.Grammar.{Value}
use Rattle.wl_proto.specs.Tables.{opcodes}
use Rattle.wl_proto.specs.Rows.{Message}
use Rattle.wl_proto.specs.Spelling.{spelling, values_len, message_len, message_bytes}
use Rattle.wl_proto.specs.Spelled.{Spelled, open_values, AreOfKinds, HaveKinds}

-- two value lists of one body differ at most in a descriptor
abbrev pub OneList : (Interface → ℕ → Option (List Kind)) → Type 0
OneList kinds_of =
    (i : Interface) (opcode : ℕ) (row : List Kind) (vs ws : List Value) (body : List ℕ) →
    kinds_of i opcode ≡ Some row → Spelled row vs body → Spelled row ws body →
    open_values vs ≡ open_values ws

-- the spelling of values is a spelling of them
abbrev pub SpelledAgain : (Interface → ℕ → Option (List Kind)) → Type 0
SpelledAgain kinds_of =
    (i : Interface) (opcode : ℕ) (row : List Kind) (vs : List Value) →
    kinds_of i opcode ≡ Some row → AreOfKinds row vs → 8 + values_len vs ≤ 4096 →
    Spelled row vs (spelling vs)

-- the opcodes of each interface's rows rise
abbrev pub Rise : (Interface → List Sig) → Type 0
Rise rows_of = (i : Interface) → IsStrictlyIncreasing (opcodes (rows_of i))

-- each request or event has a row, and its values have the kinds of the row
abbrev pub HasRow : (Interface → ℕ → Option (List Kind)) → Message → Type 0
HasRow kinds_of m =
    (row : List Kind) × (kinds_of m.interface m.opcode ≡ Some row) × HaveKinds row m.values

-- what is written is one whole message, with this id, opcode and body
abbrev pub WrittenWhole : Type 0
WrittenWhole =
    (id : ℕ) (m : Message) → id < 2 ^ 32 → m.opcode < 2 ^ 16 → message_len m ≤ 4096 →
    IsMessage (message_bytes id m) × (id_of (message_bytes id m) ≡ id)
    × (opcode_of (message_bytes id m) ≡ m.opcode)
    × (body_of (message_bytes id m) ≡ spelling m.values)
