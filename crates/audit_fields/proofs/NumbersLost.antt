-- One number less, or one more looked at.
use Rattle.std.proofs.Common.{◌≡◌, ℕ, ◌+◌, ◌<◌, Bool, true, false, ◌||◌, not, List, [], ◌∷◌, ◌++◌, length, take, get_or, filter, refl, sym, ap, subst, ◌∙◌}
use Rattle.std.specs.Prelude.{if◌then◌else◌, ◌==◌}
use Rattle.std.proofs.lemmas.Bool.{ne_eqb, eqb-true}
use Rattle.std.proofs.lemmas.Grind.{take_at_read}
use Rattle.audit_fields.specs.Gathering.{is_gained}

-- all but the one are still among them
pub lost : (q n : ℕ) (xs : List ℕ) → (q ≡ n → ⊥) → is_gained q (filter (λ x. not (x == n)) xs) ≡ is_gained q xs
lost q n [] other = refl
lost q n (x ∷ xs) other = by (x == n) refl (lost q n xs other)
  where
    by : (b : Bool) → (x == n) ≡ b → is_gained q (filter (λ y. not (y == n)) xs) ≡ is_gained q xs →
        is_gained q (if not b then x ∷ filter (λ y. not (y == n)) xs else filter (λ y. not (y == n)) xs)
        ≡ ((x == q) || is_gained q xs)
    by true e rest =
        let differs : x ≡ q → ⊥ = λ s. other (sym s ∙ eqb-true x n e) in
        rw (ne_eqb x q differs) rest
    by false e rest = ap (λ (b : Bool). (x == q) || b) rest

-- and the one isn't
pub none_left : (n : ℕ) (xs : List ℕ) → is_gained n (filter (λ x. not (x == n)) xs) ≡ false
none_left n [] = refl
none_left n (x ∷ xs) = by (x == n) refl (none_left n xs)
  where
    by : (b : Bool) → (x == n) ≡ b → is_gained n (filter (λ y. not (y == n)) xs) ≡ false →
        is_gained n (if not b then x ∷ filter (λ y. not (y == n)) xs else filter (λ y. not (y == n)) xs) ≡ false
    by true e rest = rest
    by false e rest = rw e rest

-- one more was looked at
pub one_more : (P : List ℕ → Type 0) (xs : List ℕ) (i d x : ℕ) → i < length xs → x ≡ get_or xs i d →
    P (take i xs ++ x ∷ []) →
    P (take (i + 1) xs)
one_more P xs i d x l is h =
    subst P (ap (λ y. take i xs ++ y ∷ []) is ∙ sym (take_at_read xs i d l).1) h
