-- What is out for a peer, as the cells of a store.
use Rattle.std.specs.Prelude.{◌≡◌, ℕ, ◌+◌, ◌-◌, List, ◌∷◌, ◌++◌, length, map, take, drop, nat_le, if◌then◌else◌}
use Rattle.out_store.specs.Queue.{Cell, cells_of, bytes_of, tokens_of}
use Rattle.out_store.specs.Spacing.{IsSpaced}
use Rattle.relay_model.specs.declared.said.Told.{Told}
use Rattle.broker_model.specs.declared.journal.Entry.{Entry}
use Rattle.broker_model.specs.Ids.{Made}
use Rattle.broker_model.specs.Resolve.{past_of}
use Rattle.broker_model.specs.Groups.{Piece, pair_of, group_for}
use Rattle.broker_model.specs.Out.{Outgoing, stored, tokens_taken, group_at, took_at, before_group, out_for}

-- the cells of what is stored
abbrev pub cells_out : Outgoing → List Cell
cells_out out = drop out.taken (cells_of out.put.bytes (map pair_of out.put.tokens))

-- the tokens lie within the bytes, spaced as a store asks for it
abbrev pub AreSpaced : Piece → Type 0
AreSpaced piece = IsSpaced 0 (map pair_of piece.tokens) (length piece.bytes)

-- so they do in each group
abbrev pub GroupsAreSpaced : Type 0
GroupsAreSpaced = (made : List Made) (p : ℕ) (told : List Told) → AreSpaced (group_for made p told)

-- what is stored after a group: where there is room for it, it goes whole behind what was stored,
-- but for what of it was taken ahead
abbrev pub cells_with : ℕ → Piece → Outgoing → List Cell
cells_with capacity group before =
    (if nat_le (length (cells_out before) + length group.bytes) capacity
    then cells_out before
    ++ drop (before.taken - length before.put.bytes)
    (cells_of group.bytes (map pair_of group.tokens))
    else cells_out before)

-- so each entry's group is put or left out
abbrev pub CellsArePut : Type 0
CellsArePut =
    (capacity : ℕ) (e : Entry) (older : List Entry) (p : ℕ) →
    cells_out (out_for capacity (e ∷ older) p)
    ≡ cells_with capacity (group_at e older p) (before_group e older p (out_for capacity older p))

-- what an entry takes goes from the front of what is stored
abbrev pub CellsAreTaken : Type 0
CellsAreTaken =
    (capacity : ℕ) (e : Entry) (older : List Entry) (p : ℕ) →
    cells_out (before_group e older p (out_for capacity older p))
    ≡ drop (took_at e (past_of older) p) (cells_out (out_for capacity older p))

-- the bytes of the cells are what is stored
abbrev pub BytesAreOut : Type 0
BytesAreOut =
    (capacity : ℕ) (journal : List Entry) (p : ℕ) →
    bytes_of (cells_out (out_for capacity journal p)) ≡ stored (out_for capacity journal p)

-- the tokens of the first n cells are those that go with the next n bytes
abbrev pub TokensAreOut : Type 0
TokensAreOut =
    (capacity : ℕ) (journal : List Entry) (p n : ℕ) →
    tokens_of (take n (cells_out (out_for capacity journal p)))
    ≡ map (λ t. t.token) (tokens_taken n (out_for capacity journal p))
