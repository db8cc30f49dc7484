-- What holds of each element of a list.
use Rattle.std.proofs.Common.{◌≡◌, List, [], ◌∷◌, ◌++◌, map, Bool, true, false, refl, cond, ap, ◌∙◌}
use Rattle.std.specs.Prelude.{if◌then◌else◌, filter, flat_map, ◌&&◌}
use Rattle.std.specs.List.{AllByRecursion}

-- of a value that is one of two
pub either_way : {A : Type 0} (P : A → Type 0) (b : Bool) (x y : A) → P x → P y → P (if b then x else y)
either_way P true x y h k = h
either_way P false x y h k = k

-- what holds of all
pub each_of : {A : Type 0} (P : A → Type 0) (xs : List A) → ((x : A) → P x) → AllByRecursion P xs
each_of P [] h = tt
each_of P (x ∷ xs) h = (h x, each_of P xs h)

-- what follows from it
pub each_weaker : {A : Type 0} (P Q : A → Type 0) (xs : List A) → ((x : A) → P x → Q x) → AllByRecursion P xs →
    AllByRecursion Q xs
each_weaker P Q [] f h = tt
each_weaker P Q (x ∷ xs) f h = (f x h.0, each_weaker P Q xs f h.1)

-- of lists that are put together
pub each_append : {A : Type 0} (P : A → Type 0) (xs ys : List A) → AllByRecursion P xs → AllByRecursion P ys →
    AllByRecursion P (xs ++ ys)
each_append P [] ys h k = k
each_append P (x ∷ xs) ys h k = (h.0, each_append P xs ys h.1 k)

pub each_map : {A B : Type 0} (P : B → Type 0) (f : A → B) (xs : List A) → AllByRecursion (λ x. P (f x)) xs →
    AllByRecursion P (map f xs)
each_map P f [] h = tt
each_map P f (x ∷ xs) h = (h.0, each_map P f xs h.1)

pub each_flat : {A B : Type 0} (P : B → Type 0) (f : A → List B) (xs : List A) →
    AllByRecursion (λ x. AllByRecursion P (f x)) xs →
    AllByRecursion P (flat_map f xs)
each_flat P f [] h = tt
each_flat P f (x ∷ xs) h = each_append P (f x) (flat_map f xs) h.0 (each_flat P f xs h.1)

-- what a filter keeps passes its test
pub each_kept : {A : Type 0} (test : A → Bool) (xs : List A) → AllByRecursion (λ x. test x ≡ true) (filter test xs)
each_kept test [] = tt
each_kept test (x ∷ xs) = by (test x) refl (each_kept test xs)
  where
    by : (b : Bool) → test x ≡ b → AllByRecursion (λ y. test y ≡ true) (filter test xs) →
        AllByRecursion (λ y. test y ≡ true) (if b then x ∷ filter test xs else filter test xs)
    by true e k = (e, k)
    by false e k = k

-- What holds of each element of a list, and what a filter keeps.

-- what follows for each
pub all_then : {X : Type 0} (P Q : X → Type 0) (xs : List X) → ((x : X) → P x → Q x) → AllByRecursion P xs →
    AllByRecursion Q xs
all_then P Q [] f h = tt
all_then P Q (x ∷ xs) f h = (f x h.0, all_then P Q xs f h.1)

-- what holds of each image
pub all_of_map : {X Y : Type 0} (f : X → Y) (P : Y → Type 0) (xs : List X) → AllByRecursion P (map f xs) →
    AllByRecursion (λ x. P (f x)) xs
all_of_map f P [] h = tt
all_of_map f P (x ∷ xs) h = (h.0, all_of_map f P xs h.1)

-- those that are kept pass the test besides
pub all_filtered : {X : Type 0} (P : X → Type 0) (test : X → Bool) (xs : List X) → AllByRecursion P xs →
    AllByRecursion (λ x. P x × (test x ≡ true)) (filter test xs)
all_filtered P test [] h = tt
all_filtered P test (x ∷ xs) h = by (test x) refl (all_filtered P test xs h.1)
  where
    by : (b : Bool) → test x ≡ b → AllByRecursion (λ y. P y × (test y ≡ true)) (filter test xs) →
        AllByRecursion (λ y. P y × (test y ≡ true)) (cond b (x ∷ filter test xs) (filter test xs))
    by true e k = ((h.0, e), k)
    by false e k = k

-- two tests that agree on the list
pub filter_same : {X : Type 0} (p q : X → Bool) (xs : List X) → AllByRecursion (λ x. p x ≡ q x) xs →
    filter p xs ≡ filter q xs
filter_same p q [] h = refl
filter_same p q (x ∷ xs) h =
    ap (λ b. cond b (x ∷ filter p xs) (filter p xs)) h.0 ∙ ap (λ ys. cond (q x) (x ∷ ys) ys) (filter_same p q xs h.1)

-- a test that is two tests
pub filter_twice : {X : Type 0} (both p q : X → Bool) (xs : List X) → AllByRecursion (λ x. both x ≡ (p x && q x)) xs →
    filter both xs ≡ filter q (filter p xs)
filter_twice both p q [] h = refl
filter_twice both p q (x ∷ xs) h =
    ap (λ b. cond b (x ∷ filter both xs) (filter both xs)) h.0 ∙ by (p x) (q x) refl (filter_twice both p q xs h.1)
  where
    by : (b c : Bool) → q x ≡ c → filter both xs ≡ filter q (filter p xs) →
        cond (b && c) (x ∷ filter both xs) (filter both xs) ≡ filter q (cond b (x ∷ filter p xs) (filter p xs))
    by true true e k = rw e (ap (λ ys. x ∷ ys) k)
    by true false e k = rw e k
    by false c e k = k

-- a test of the images
pub map_filter : {X Y : Type 0} (f : X → Y) (test : Y → Bool) (xs : List X) →
    map f (filter (λ x. test (f x)) xs) ≡ filter test (map f xs)
map_filter f test [] = refl
map_filter f test (x ∷ xs) = by (test (f x)) ∙ ap (λ ys. cond (test (f x)) (f x ∷ ys) ys) (map_filter f test xs)
  where
    by : (b : Bool) → map f (cond b (x ∷ filter (λ y. test (f y)) xs) (filter (λ y. test (f y)) xs))
        ≡ cond b (f x ∷ map f (filter (λ y. test (f y)) xs)) (map f (filter (λ y. test (f y)) xs))
    by true = refl
    by false = refl
