-- How a log that hears a client is written
use Rattle.std.specs.Prelude.{◌≡◌, Bool, true, false, List, ◌∷◌}

-- the thing was written down, unless memory lacked, now or before; then nothing was
abbrev pub Writes : {H X : Type 0} → (H → Bool) → (H → List X) → H → X → H → Type 0
Writes lacks log before thing after =
    (lacks after ≡ false → (lacks before ≡ false) × (log after ≡ thing ∷ log before))
    × (lacks after ≡ true → log after ≡ log before)
