-- What has a number, in a queue with the oldest in front and a past behind it.
use Rattle.std.proofs.Common.{◌≡◌, ℕ, zero, suc, ◌+◌, ◌<◌, List, [], ◌∷◌, ◌++◌, length, reverse, Option, Bor, Some, None, false, refl, sym, ap, subst, ◌∙◌, arith}
use Rattle.std.specs.Prelude.{◌==◌, nat_le, if◌then◌else◌}
use Rattle.std.specs.List.{slice_get}
use Rattle.std.specs.Option.{option_copied}
use Rattle.std.specs.Slice.{IsItemAt}
use Rattle.std.proofs.lemmas.List.{reverse-reverse, reverse-append, length-reverse, length-append}
use Rattle.std.proofs.lemmas.Option.{slice_get_past, slice_get-get_or}
use Rattle.out_store.specs.Long.{item_at, kept_at}

-- what stands at a place once one more is put behind
get_behind : {A : Type 0} → (xs : List A) (x : A) (k : ℕ) →
    slice_get (xs ++ x ∷ []) k ≡ (if k == length xs then Some x else slice_get xs k)
get_behind [] x zero = refl
get_behind [] x (suc k) = grind arith
get_behind (y ∷ xs) x zero = grind arith
get_behind (y ∷ xs) x (suc k) = grind (arith, get_behind xs x k)

one_more : (k n : ℕ) → (k == n) ≡ (k + 1 == n + 1)
one_more k n = grind arith

item_reversed : {A : Type 0} → (xs : List A) (k : ℕ) → slice_get (reverse xs) k ≡ item_at xs (k + 1)
item_reversed [] k = refl
item_reversed (x ∷ xs) k =
    rw (reverse-append (x ∷ []) xs)
    (rw (get_behind (reverse xs) x k)
    (rw (length-reverse xs)
    (rw (item_reversed xs k) (rw (one_more k (length xs)) refl))))

-- the place of a number
item_place : {A : Type 0} → (xs : List A) (k : ℕ) → slice_get xs k ≡ item_at (reverse xs) (k + 1)
item_place xs k =
    subst (λ ys. slice_get ys k ≡ item_at (reverse xs) (k + 1)) (reverse-reverse xs) (item_reversed (reverse xs) k)

-- what a look-up in the queue gives
item_got : {A : Type 0} → (xs : List A) (k : ℕ) (r : Option (Bor A)) → IsItemAt xs k r →
    option_copied r ≡ item_at (reverse xs) (k + 1)
item_got xs k None h = grind (arith, h, item_place xs k, slice_get_past xs k)
item_got xs k (Some x) h = grind (arith, h, item_place xs k, slice_get-get_or xs k x.now)

-- no number is above all
item_above : {A : Type 0} → (xs : List A) (n : ℕ) → length xs < n → item_at xs n ≡ None
item_above [] n above = refl
item_above (x ∷ xs) n above =
    let other : (n == length xs + 1) ≡ false = grind (arith, above) in
    rw other (item_above xs n (omega arith))

-- the numbers in a queue go on from those of the past
goes_on : (k m n all : ℕ) → all ≡ m + n → (k + 1 + n == all + 1) ≡ (k + 1 == m + 1)
goes_on k m n all is = grind (arith, is)

item_behind : {A : Type 0} → (xs past : List A) (k : ℕ) →
    item_at (xs ++ past) (k + 1 + length past) ≡ item_at xs (k + 1)
item_behind [] past k = item_above past (k + 1 + length past) (omega arith)
item_behind (x ∷ xs) past k =
    rw (goes_on k (length xs) (length past) (length (xs ++ past)) (length-append xs past))
    (rw (item_behind xs past k) refl)

-- what a look-up gives, where the past isn't looked at
pub kept_got : {A : Type 0} → (xs past : List A) (k kept_from number : ℕ) (r : Option (Bor A)) → IsItemAt xs k r →
    kept_from ≡ length past →
    number ≡ k + 1 + kept_from → option_copied r ≡ kept_at kept_from (reverse xs ++ past) number
kept_got xs past k kept_from number r got gone is =
    let later : nat_le number kept_from ≡ false = grind (arith, is) in
    let at : number ≡ k + 1 + length past = is ∙ ap (λ (n : ℕ). k + 1 + n) gone in
    rw later (rw at (item_got xs k r got ∙ sym (item_behind (reverse xs) past k)))

-- the front has the next number after the past
pub front_at : {A : Type 0} → (x : A) (xs past : List A) (n : ℕ) → n ≡ length past + 1 →
    Some x ≡ item_at (reverse (x ∷ xs) ++ past) n
front_at x xs past n is =
    let at : n ≡ 0 + 1 + length past = is ∙ omega arith in
    rw at (item_place (x ∷ xs) 0 ∙ sym (item_behind (reverse (x ∷ xs)) past 0))

-- and nothing has, where the queue is empty
pub no_front : {A : Type 0} → (past : List A) (n : ℕ) → n ≡ length past + 1 → None ≡ item_at past n
no_front past n is = sym (item_above past n (omega arith))
