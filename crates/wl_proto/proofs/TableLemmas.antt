-- A table whose test says that its opcodes rise has opcodes that rise, and the other way round.
use Rattle.std.proofs.Common.{◌≡◌, ℕ, zero, suc, ◌+◌, ◌<◌, ltb, true, List, [], ◌∷◌, arith, refl}
use Rattle.std.specs.List.Sorted.{IsStrictlyIncreasing}
use Rattle.std.proofs.lemmas.Bool.{and_parts, ltb-true, lt-ltb}
use Rattle.wl_proto.specs.Tables.{rises}

first_step : (n m : ℕ) (ns : List ℕ) → n < m → IsStrictlyIncreasing (m ∷ ns) → IsStrictlyIncreasing (n ∷ m ∷ ns)
first_step n m ns lt rest zero within = lt
first_step n m ns lt rest (suc k) within =
    let next : suc k + 1 ≡ suc (k + 1) = omega arith in
    rw next (rest k (omega (arith, within)))

pub rises-increasing : (ns : List ℕ) → rises ns ≡ true → IsStrictlyIncreasing ns
rises-increasing [] h = λ k within. absurd (omega (arith, within))
rises-increasing (n ∷ []) h = λ k within. absurd (omega (arith, within))
rises-increasing (n ∷ m ∷ ns) h =
    let (first, rest) = and_parts (ltb n m) (rises (m ∷ ns)) h in
    first_step n m ns (ltb-true n m first) (rises-increasing (m ∷ ns) rest)

later_steps : (n m : ℕ) (ns : List ℕ) → IsStrictlyIncreasing (n ∷ m ∷ ns) → IsStrictlyIncreasing (m ∷ ns)
later_steps n m ns h k within =
    let next : suc k + 1 ≡ suc (k + 1) = omega arith in
    rw next at (h (suc k) (omega (arith, within)))

pub increasing-rises : (ns : List ℕ) → IsStrictlyIncreasing ns → rises ns ≡ true
increasing-rises [] h = refl
increasing-rises (n ∷ []) h = refl
increasing-rises (n ∷ m ∷ ns) h =
    let first : ltb n m ≡ true = lt-ltb n m (h 0 (omega arith)) in
    rw (first, increasing-rises (m ∷ ns) (later_steps n m ns h)) refl
