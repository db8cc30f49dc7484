-- A loop that changes each element in turn.
use Rattle.std.proofs.Common.{◌≡◌, ℕ, zero, suc, ◌+◌, ◌<◌, List, [], ◌∷◌, ◌++◌, length, map, take, drop, set, get_or, ap, refl, arith, add-one}

set_mapped_suc : {A : Type 0} (f : A → A) (xs : List A) (i : ℕ) (d : A) → i < length xs →
    set (map f (take i xs) ++ drop i xs) i (f (get_or (map f (take i xs) ++ drop i xs) i d))
    ≡ map f (take (suc i) xs) ++ drop (suc i) xs
set_mapped_suc f [] i d h = absurd (omega arith)
set_mapped_suc f (x ∷ xs) zero d h = refl
set_mapped_suc f (x ∷ xs) (suc i) d h = ap (λ ys. f x ∷ ys) (set_mapped_suc f xs i d (omega arith))

-- one more element is changed
pub set_mapped : {A : Type 0} (f : A → A) (xs ys : List A) (i : ℕ) (d : A) →
    ys ≡ map f (take i xs) ++ drop i xs → i < length xs →
    set ys i (f (get_or ys i d)) ≡ map f (take (i + 1) xs) ++ drop (i + 1) xs
set_mapped f xs ys i d e h = rw (e, add-one) (set_mapped_suc f xs i d h)
