-- The tables as data: which kinds of arguments the row of an opcode has.
use Rattle.std.specs.Prelude.{ℕ, ◌==◌, ◌&&◌, Bool, true, nat_lt, List, [], ◌∷◌, Option, Some, None, map}
use Rattle.std.specs.Option.{option_map}
use Rattle.std.specs.List.{find}
use Rattle.wl_proto.specs.declared.table.Kind.{Kind}
use Rattle.wl_proto.specs.declared.table.Sig.{Sig}

abbrev pub opcodes : List Sig → List ℕ
opcodes rows = map (λ s. s.opcode) rows

-- each number is above the one before it, as a test
abbrev pub rises : List ℕ → Bool
rises [] = true
rises (n ∷ []) = true
rises (n ∷ m ∷ ns) = nat_lt n m && rises (m ∷ ns)

-- the kinds that are there
abbrev pub kinds_in : List (Option Kind) → List Kind
kinds_in [] = []
kinds_in (None ∷ ks) = []
kinds_in (Some k ∷ ks) = k ∷ kinds_in ks

-- the kinds of the row that has the opcode
abbrev pub row : ℕ → List Sig → Option (List Kind)
row opcode rows = option_map (λ s. kinds_in s.kinds) (find (λ s. s.opcode == opcode) rows)
