-- how many keys of a list without repeats pass a test, when the test changes at one key
use Rattle.std.proofs.Common.{◌≡◌, ℕ, ◌+◌, List, [], ◌∷◌, Bool, true, false, cond, ◌||◌, refl, sym, ◌∙◌, ap, arith}
use Rattle.std.specs.Prelude.{◌==◌, if◌then◌else◌}
use Rattle.std.specs.List.{count_by, list_any}
use Rattle.std.proofs.lemmas.Bool.{or_parts, eqb-true, eqb-false, ne_eqb, true≢false}
use Rattle.std.proofs.lemmas.List.Sums.{sum_by-cons}

-- the key stands in the list
abbrev pub among : ℕ → List ℕ → Bool
among k xs = list_any (λ x. k == x) xs

-- no key stands twice
abbrev pub Once : List ℕ → Type 0
Once [] = Unit {0}
Once (x ∷ xs) = (among x xs ≡ false) × Once xs

-- two tests agree but at k
abbrev pub AgreeBut : ℕ → (ℕ → Bool) → (ℕ → Bool) → Type 0
AgreeBut k f g = (x : ℕ) → (x == k) ≡ false → g x ≡ f x

apart : (k x : ℕ) → (k == x) ≡ false → (x == k) ≡ false
apart k x e = ne_eqb x k (λ same. eqb-false k x e (sym same))

pub count_cons : (p : ℕ → Bool) (x : ℕ) (xs : List ℕ) → count_by p (x ∷ xs) ≡ cond (p x) 1 0 + count_by p xs
count_cons p x xs = sum_by-cons (λ y. cond (p y) 1 0) x xs

one_more_each : (a b m n : ℕ) (p q : Bool) → a ≡ cond p 1 0 + m → b ≡ cond q 1 0 + n → p ≡ q → (j : ℕ) → m ≡ n + j →
    a ≡ b + j
one_more_each a b m n p q e f same j h = rw (e, f, same) (omega arith)

pub count_everywhere : (f g : ℕ → Bool) → ((x : ℕ) → g x ≡ f x) → (xs : List ℕ) → count_by g xs ≡ count_by f xs
count_everywhere f g agree [] = refl
count_everywhere f g agree (x ∷ xs) =
    omega (
      arith,
      one_more_each _ _ _ _ _ _ (count_cons g x xs) (count_cons f x xs) (agree x) 0
          (omega (arith, count_everywhere f g agree xs)),
    )

pub count_absent : (k : ℕ) (f g : ℕ → Bool) → AgreeBut k f g → (xs : List ℕ) → among k xs ≡ false →
    count_by g xs ≡ count_by f xs
count_absent k f g agree [] absent = refl
count_absent k f g agree (x ∷ xs) absent =
    let parts : ((k == x) ≡ false) × (among k xs ≡ false) = or_parts (k == x) (among k xs) absent in
    omega (
      arith,
      one_more_each _ _ _ _ _ _ (count_cons g x xs) (count_cons f x xs) (agree x (apart k x parts.0)) 0
          (omega (arith, count_absent k f g agree xs parts.1)),
    )

at_head : (f g : ℕ → Bool) (x : ℕ) (xs : List ℕ) → f x ≡ false → g x ≡ true → count_by g xs ≡ count_by f xs →
    count_by g (x ∷ xs) ≡ count_by f (x ∷ xs) + 1
at_head f g x xs low high rest = rw (count_cons g x xs, count_cons f x xs, low, high, rest) (omega arith)

-- where k stands in the list once, and only the second test passes it, that one passes one more
pub count_raised : (k : ℕ) (f g : ℕ → Bool) → AgreeBut k f g → f k ≡ false → g k ≡ true → (xs : List ℕ) → Once xs →
    among k xs ≡ true → count_by g xs ≡ count_by f xs + 1
count_raised k f g agree low high [] once stands = absurd (true≢false (sym stands))
count_raised k f g agree low high (x ∷ xs) once stands =
    at (k == x) refl stands (λ there. count_raised k f g agree low high xs once.1 there)
  where
    at : (here : Bool) → (k == x) ≡ here → (here || among k xs) ≡ true →
        (among k xs ≡ true → count_by g xs ≡ count_by f xs + 1) → count_by g (x ∷ xs) ≡ count_by f (x ∷ xs) + 1
    at true e stands later =
        let same : k ≡ x = eqb-true k x e in
        let absent : among k xs ≡ false = ap (λ y. among y xs) same ∙ once.0 in
        at_head f g x xs (ap f (sym same) ∙ low) (ap g (sym same) ∙ high) (count_absent k f g agree xs absent)
    at false e stands later =
        one_more_each _ _ _ _ _ _ (count_cons g x xs) (count_cons f x xs) (agree x (apart k x e)) 1 (later stands)

-- the test that rises at k, over the list that k is added to where it isn't in it
pub count_added : (k : ℕ) (f g : ℕ → Bool) → AgreeBut k f g → f k ≡ false → g k ≡ true → (xs : List ℕ) → Once xs →
    (b : Bool) → among k xs ≡ b → count_by g (if b then xs else k ∷ xs) ≡ count_by f xs + 1
count_added k f g agree low high xs once true e = count_raised k f g agree low high xs once e
count_added k f g agree low high xs once false e =
    rw (count_cons g k xs, high, count_absent k f g agree xs e) (omega arith)

-- tests that agree everywhere, over the list that k is added to, which doesn't pass
pub count_kept : (k : ℕ) (f g : ℕ → Bool) → ((x : ℕ) → g x ≡ f x) → (xs : List ℕ) → (b : Bool) → among k xs ≡ b →
    (b ≡ false → f k ≡ false) → count_by g (if b then xs else k ∷ xs) ≡ count_by f xs
count_kept k f g agree xs true e low = count_everywhere f g agree xs
count_kept k f g agree xs false e low =
    rw (count_cons g k xs, agree k, low refl, count_everywhere f g agree xs) (omega arith)
