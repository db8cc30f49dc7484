-- How tokens lie among bytes.
use Rattle.std.specs.Prelude.{ℕ, ◌+◌, ◌≤◌, List, [], ◌∷◌}

-- the offsets rise from the first number on, and each message has at least 16 bytes before the next
-- one and before the end
abbrev pub IsSpaced : ℕ → List (ℕ × ℕ) → ℕ → Type 0
IsSpaced from [] end = from ≤ end
IsSpaced from (entry ∷ rest) end = (from ≤ entry.0) × IsSpaced (entry.0 + 16) rest end
