-- How a store keeps its tokens: by places that count around 2^64, so that no token is touched as
-- the bytes before it go.
use Rattle.std.specs.Prelude.{ℕ, ◌+◌, ◌-◌, ◌%◌, ◌^◌, nat_lt, if◌then◌else◌, List, [], ◌∷◌, map}
use Rattle.out_store.specs.declared.begins.Begin.{Begin}

-- how far a place is past another
abbrev pub distance : ℕ → ℕ → ℕ
distance front place = (place + (2 ^ 64 - front)) % 2 ^ 64

-- the tokens with their offsets from the place of the first byte that waits
abbrev pub offsets : ℕ → List Begin → List (ℕ × ℕ)
offsets front begins = map (λ (begin : Begin). (distance front begin.place, begin.token)) begins

-- the tokens of a group that begins at this place
abbrev pub placed : ℕ → List (ℕ × ℕ) → List Begin
placed start tokens =
    map (λ (entry : ℕ × ℕ). record { place = (start + entry.0) % 2 ^ 64; token = entry.1 }) tokens

-- how many of the first tokens are at an offset below n
abbrev pub begun_count : ℕ → List (ℕ × ℕ) → ℕ
begun_count n [] = 0
begun_count n (entry ∷ rest) = if nat_lt entry.0 n then begun_count n rest + 1 else 0
