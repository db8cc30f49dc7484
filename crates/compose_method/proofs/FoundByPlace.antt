-- What `find` finds, by places.
use Rattle.std.proofs.Common.{◌≡◌, ℕ, zero, suc, ◌<◌, Bool, true, false, List, [], ◌∷◌, length, get_or, Some, None, refl, ⊎_elim, arith}
use Rattle.std.specs.List.{find, All}
use Rattle.std.specs.Prelude.{is_some}
use Rattle.std.proofs.lemmas.Bool.{both_ways, cases_Bool}
use Rattle.std.proofs.lemmas.List.Elements.{All-nil, All-cons}

-- the first element that passes
pub find_is : {X : Type 0} (p : X → Bool) (xs : List X) (i : ℕ) (d : X) → i < length xs → p (get_or xs i d) ≡ true
    → ((k : ℕ) → k < i → p (get_or xs k d) ≡ false) → find p xs ≡ Some (get_or xs i d)
find_is p [] i d within passes before = absurd (omega arith)
find_is p (x ∷ xs) zero d within passes before = rw passes refl
find_is p (x ∷ xs) (suc i) d within passes before =
    let no : p x ≡ false = before 0 (omega arith) in
    rw no (find_is p xs i d (omega arith) passes (λ k below. before (suc k) (omega arith)))

-- no element passes
pub find_none : {X : Type 0} (p : X → Bool) (xs : List X) → All (λ x. p x ≡ false) xs → find p xs ≡ None
find_none p [] none = refl
find_none p (x ∷ xs) none =
    let no : p x ≡ false = none 0 x (omega arith) in
    rw no (find_none p xs (λ k d below. none (suc k) d (omega arith)))

-- what is not found is not there
pub find_none-all : {X : Type 0} (p : X → Bool) (xs : List X) → is_some (find p xs) ≡ false → All (λ x. p x ≡ false) xs
find_none-all p [] none = All-nil (λ x. p x ≡ false)
find_none-all p (x ∷ xs) none = ⊎_elim
    (λ (yes : p x ≡ true). absurd (both_ways (is_some (find p (x ∷ xs))) none (rw yes refl)))
    (λ (no : p x ≡ false). All-cons (λ x. p x ≡ false) x xs no (find_none-all p xs (rw no at none)))
    (cases_Bool (p x))
