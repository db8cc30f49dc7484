-- Where the live peer with a number stands among all, by rising number.
use Rattle.std.proofs.Common.{◌≡◌, ℕ, zero, suc, ◌+◌, ◌<◌, Bool, true, false, List, [], ◌∷◌, Some, None, refl, ap, ◌∙◌, subst, arith}
use Rattle.std.specs.Prelude.{not, filter}
use Rattle.std.specs.List.{slice_get, remove}
use Rattle.std.proofs.lemmas.Bool.{eq-eqb, ne_eqb}
use Rattle.broker_audience.specs.declared.live.Live.{Live}
use Rattle.broker_audience.specs.Lives.{is_number, number_of, AreAbove, AreRising}

-- where nobody has the number there is nobody to find
pub nobody_found : (q : ℕ) (live : List Live) → filter (is_number q) live ≡ [] → number_of q live ≡ None
nobody_found q [] h = refl
nobody_found q (l ∷ rest) h = step q l rest (is_number q l) refl h (nobody_found q rest)
  where
    step : (q : ℕ) (l : Live) (rest : List Live) (b : Bool) → is_number q l ≡ b → filter (is_number q) (l ∷ rest) ≡ [] →
        (filter (is_number q) rest ≡ [] → number_of q rest ≡ None) → number_of q (l ∷ rest) ≡ None
    step q l rest true e h more = let found : l ∷ filter (is_number q) rest ≡ [] = rw e at h in cc
    step q l rest false e h more = rw e (more (rw e at h))

-- and nobody to leave out
pub nobody_left_out : (q : ℕ) (live : List Live) → filter (is_number q) live ≡ [] →
    live ≡ filter (λ l. not (is_number q l)) live
nobody_left_out q [] h = refl
nobody_left_out q (l ∷ rest) h = step q l rest (is_number q l) refl h (nobody_left_out q rest)
  where
    step : (q : ℕ) (l : Live) (rest : List Live) (b : Bool) → is_number q l ≡ b → filter (is_number q) (l ∷ rest) ≡ [] →
        (filter (is_number q) rest ≡ [] → rest ≡ filter (λ l. not (is_number q l)) rest) →
        l ∷ rest ≡ filter (λ l. not (is_number q l)) (l ∷ rest)
    step q l rest true e h more = let found : l ∷ filter (is_number q) rest ≡ [] = rw e at h in cc
    step q l rest false e h more = rw e (ap (λ ls. l ∷ ls) (more (rw e at h)))

-- those above a number don't have it
none_of_above : (q base : ℕ) (live : List Live) → q < base + 1 → AreAbove base live →
    live ≡ filter (λ l. not (is_number q l)) live
none_of_above q base [] h above = refl
none_of_above q base (l ∷ rest) h above =
    let other : is_number q l ≡ false = ne_eqb l.number q (λ e. absurd (omega (arith, above.0))) in
    rw other (ap (λ ls. l ∷ ls) (none_of_above q l.number rest (omega (arith, above.0)) above.1))

-- one that stands among those above a number is above it
stands_above : (base place : ℕ) (live : List Live) (l : Live) → AreAbove base live → slice_get live place ≡ Some l →
    base < l.number
stands_above base place [] l above at = cc
stands_above base zero (m ∷ rest) l above at = let same : m ≡ l =
    cc in subst (λ (k : Live). base < k.number) same above.0
stands_above base (suc place) (m ∷ rest) l above at =
    omega (arith, above.0, stands_above m.number place rest l above.1 at)

removed_above : (q base place : ℕ) (live : List Live) (l : Live) → AreAbove base live → slice_get live place ≡ Some l →
    l.number ≡ q →
    remove live place ≡ filter (λ m. not (is_number q m)) live
removed_above q base place [] l above at number = cc
removed_above q base zero (m ∷ rest) l above at number =
    let same : m ≡ l = cc in
    let has : m.number ≡ q = ap (λ (k : Live). k.number) same ∙ number in
    let is : is_number q m ≡ true = eq-eqb m.number q has in
    rw is (none_of_above q m.number rest (omega arith) above.1)
removed_above q base (suc place) (m ∷ rest) l above at number =
    let higher : m.number < l.number = stands_above m.number place rest l above.1 at in
    let other : is_number q m ≡ false = ne_eqb m.number q (λ e. absurd (omega arith)) in
    rw other (ap (λ ls. m ∷ ls) (removed_above q m.number place rest l above.1 at number))

-- the one at the place goes, and all others stay
pub removed : (q place : ℕ) (live : List Live) (l : Live) → AreRising live → slice_get live place ≡ Some l →
    l.number ≡ q →
    remove live place ≡ filter (λ m. not (is_number q m)) live
removed q place live l rising at number = removed_above q 0 place live l rising at number
