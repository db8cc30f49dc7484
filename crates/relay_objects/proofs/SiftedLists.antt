-- Lists that are changed and sifted.
use Rattle.std.proofs.Common.{◌≡◌, ◌≢◌, ℕ, zero, suc, ◌<◌, List, [], ◌∷◌, length, get_or, map, filter, Bool, true, false, ◌||◌, if◌then◌else◌, refl, ap, arith, All}
use Rattle.std.specs.List.{remove, list_any}

module _ {A : Type 0} where
  if_yes : (b : Bool) (x : A) (xs ys : List A) → b ≡ true → xs ≡ ys → x ∷ xs ≡ (if b then x ∷ ys else ys)
  if_yes true x xs ys is e = ap (λ rest. x ∷ rest) e
  if_yes false x xs ys is e = absurd (cc)

  if_no : (b : Bool) (x : A) (xs ys : List A) → b ≡ false → xs ≡ ys → xs ≡ (if b then x ∷ ys else ys)
  if_no true x xs ys is e = absurd (cc)
  if_no false x xs ys is e = e

  -- where each element passes, all stay
  pub filter_keeps : (q : A → Bool) (xs : List A) → ((k : ℕ) (d : A) → k < length xs → q (get_or xs k d) ≡ true) →
      xs ≡ filter q xs
  filter_keeps q [] each = refl
  filter_keeps q (x ∷ xs) each =
      if_yes (q x) x xs (filter q xs) (each 0 x (omega arith))
      (filter_keeps q xs (λ k d lt. each (suc k) d (omega arith)))

  -- where each element but one passes, all but that stay
  pub remove_filters : (q : A → Bool) (xs : List A) (i : ℕ) → i < length xs → ((d : A) → q (get_or xs i d) ≡ false) →
      ((k : ℕ) (d : A) → k < length xs → k ≢ i → q (get_or xs k d) ≡ true) → remove xs i ≡ filter q xs
  remove_filters q [] i within out each = absurd (omega arith)
  remove_filters q (x ∷ xs) zero within out each =
      if_no (q x) x xs (filter q xs) (out x)
      (filter_keeps q xs (λ k d lt. each (suc k) d (omega arith) (λ same. omega arith)))
  remove_filters q (x ∷ xs) (suc i) within out each =
      if_yes (q x) x (remove xs i) (filter q xs) (each 0 x (omega arith) (λ same. omega arith))
      (remove_filters q xs i (omega arith) out
      (λ k d lt differs. each (suc k) d (omega arith) (λ same. differs (omega arith))))

  filter_if : (q : A → Bool) (b : Bool) (x : A) (xs : List A) →
      filter q (if b then x ∷ xs else xs) ≡ (if b then filter q (x ∷ xs) else filter q xs)
  filter_if q true x xs = refl
  filter_if q false x xs = refl

  if_comm : (a b : Bool) (x : A) (xs : List A) →
      (if a then (if b then x ∷ xs else xs) else xs) ≡ (if b then (if a then x ∷ xs else xs) else xs)
  if_comm true true x xs = refl
  if_comm true false x xs = refl
  if_comm false true x xs = refl
  if_comm false false x xs = refl

  pub filter_comm : (p q : A → Bool) (xs : List A) → filter p (filter q xs) ≡ filter q (filter p xs)
  filter_comm p q [] = refl
  filter_comm p q (x ∷ xs) =
      rw (filter_if p (q x) x (filter q xs), filter_if q (p x) x (filter p xs), filter_comm p q xs)
      (if_comm (q x) (p x) x (filter q (filter p xs)))

  -- tests that agree on each element sift alike
  pub filter_alike : (p q : A → Bool) (xs : List A) → All (λ x. p x ≡ q x) xs → filter p xs ≡ filter q xs
  filter_alike p q [] same = refl
  filter_alike p q (x ∷ xs) same =
      rw (same 0 x (omega arith), filter_alike p q xs (λ k d lt. same (suc k) d (omega arith))) refl

  pub filter-map : {B : Type 0} (q : B → Bool) (f : A → B) (xs : List A) →
      filter q (map f xs) ≡ map f (filter (λ x. q (f x)) xs)
  filter-map q f [] = refl
  filter-map q f (x ∷ xs) = rw (filter-map q f xs) (both (q (f x)))
    where
      both : (b : Bool) →
          (if b then f x ∷ map f (filter (λ y. q (f y)) xs) else map f (filter (λ y. q (f y)) xs))
          ≡ map f (if b then x ∷ filter (λ y. q (f y)) xs else filter (λ y. q (f y)) xs)
      both true = refl
      both false = refl

  pub map_map : (f h g : A → A) (xs : List A) → ((x : A) → f (h x) ≡ g x) → map f (map h xs) ≡ map g xs
  map_map f h g [] same = refl
  map_map f h g (x ∷ xs) same = rw (same x, map_map f h g xs same) refl

  -- where each element agrees, so do the lists
  pub map_all : (f h g : A → A) (xs : List A) → All (λ x. f (h x) ≡ g x) xs → map f (map h xs) ≡ map g xs
  map_all f h g [] same = refl
  map_all f h g (x ∷ xs) same =
      rw (same 0 x (omega arith), map_all f h g xs (λ k d lt. same (suc k) d (omega arith))) refl

  any_step : (t p : A → Bool) (x : A) (xs : List A) (a b : Bool) → t x ≡ a →
      (list_any t (filter p xs) ≡ true → list_any t xs ≡ true) →
      list_any t (if b then x ∷ filter p xs else filter p xs) ≡ true → (a || list_any t xs) ≡ true
  any_step t p x xs true b is later h = refl
  any_step t p x xs false true is later h = later (rw is at h)
  any_step t p x xs false false is later h = later h

  -- what passes among some passes among all
  pub any_filter : (t p : A → Bool) (xs : List A) → list_any t (filter p xs) ≡ true → list_any t xs ≡ true
  any_filter t p [] any = any
  any_filter t p (x ∷ xs) any = any_step t p x xs (t x) (p x) refl (any_filter t p xs) any
