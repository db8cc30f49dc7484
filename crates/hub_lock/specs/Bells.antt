-- The bells that a step rings: those of the peers for which something was put, or which ended
use Rattle.std.specs.Prelude.{◌≡◌, ◌⊎◌, ◌↔◌, ℕ, ◌%◌, ◌<◌, List, [], ◌∷◌, Option, Some, None}
use Rattle.std.specs.Int.{bit_at}
use Rattle.broker_model.specs.declared.journal.Entry.TheVariants.{End}
use Rattle.broker_core.specs.Watched.{Watched}
use Rattle.broker_core.specs.Watched.Watched.{Entered, Put}
use Rattle.hub_lock.specs.declared.rings.Rings.{Rings}

-- the bell of the peer q
abbrev pub bell : ℕ → ℕ
bell q = q % 64

-- the bell of the peer that one thing is for: a group that was put for it, or its end
abbrev pub bell_of : Watched → Option ℕ
bell_of (Put n q bytes tokens) = Some (bell q)
bell_of (Entered n (End q cause) act log) = Some (bell q)
bell_of _ = None

-- one of these things is for a peer with this bell
abbrev pub IsFor : ℕ → List Watched → Type 0
IsFor k [] = ⊥
IsFor k (w ∷ ws) = (bell_of w ≡ Some k) ⊎ IsFor k ws

-- the bits of these bells are set, and no others
abbrev pub AreRung : ℕ → List Watched → Type 0
AreRung bits ws = (k : ℕ) → k < 64 → (bit_at bits k ≡ 1) ↔ IsFor k ws

-- the same of one thing more
abbrev pub IsRungFor : ℕ → Watched → ℕ → Type 0
IsRungFor before w after =
    (k : ℕ) → k < 64 → (bit_at after k ≡ 1) ↔ ((bell_of w ≡ Some k) ⊎ (bit_at before k ≡ 1))

abbrev pub IsRungBy : Rings → Watched → Rings → Type 0
IsRungBy before w after = IsRungFor before.bits w after.bits
