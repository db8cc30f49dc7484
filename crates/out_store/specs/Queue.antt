-- What a contract sees of a store: the bytes that wait, each with the token whose message begins at
-- it.
use Rattle.std.specs.Prelude.{◌==◌, ℕ, ◌+◌, if◌then◌else◌, List, [], ◌∷◌, map, Option, None, Some}
use Rattle.std.specs.List.{filter_map}

-- a byte, and the token whose message begins at it, if there is one
abbrev pub Cell : Type 0
Cell = ℕ × Option ℕ

-- the cells that wait, the next to come out first, and how many there may be
pub record Queue : Type 0 where
  pub cells : List Cell
  pub capacity : ℕ

abbrev pub queue : List Cell → ℕ → Queue
queue cells capacity = record { cells = cells; capacity = capacity }

-- the token that is listed at this offset
abbrev pub token_at : ℕ → List (ℕ × ℕ) → Option ℕ
token_at at [] = None
token_at at (entry ∷ rest) = if entry.0 == at then Some entry.1 else token_at at rest

-- bytes that begin at this offset, each with the token that is listed at its offset
abbrev pub cells_from : ℕ → List ℕ → List (ℕ × ℕ) → List Cell
cells_from at [] tokens = []
cells_from at (byte ∷ rest) tokens = (byte, token_at at tokens) ∷ cells_from (at + 1) rest tokens

-- the cells of a group's bytes and tokens, each token listed with the offset at which its message
-- begins
abbrev pub cells_of : List ℕ → List (ℕ × ℕ) → List Cell
cells_of bytes tokens = cells_from 0 bytes tokens

abbrev pub bytes_of : List Cell → List ℕ
bytes_of cells = map (λ cell. cell.0) cells

-- the tokens, in the order of their messages
abbrev pub tokens_of : List Cell → List ℕ
tokens_of cells = filter_map (λ cell. cell.1) cells
