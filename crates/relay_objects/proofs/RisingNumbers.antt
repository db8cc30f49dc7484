-- Lists whose elements have rising numbers: no two have one number, and what a search by halves finds.
use Rattle.std.proofs.Common.{◌≡◌, ◌≢◌, ℕ, zero, suc, ◌+◌, ◌<◌, ◌≤◌, List, [], ◌∷◌, length, get_or, map, filter, Bool, true, false, if◌then◌else◌, Result, Ok, Err, IfOk, IfErr, sym, ap, arith}
use Rattle.std.specs.List.Sorted.{IsSearchInRange, IsBinarySearchResult, IsNonDecreasingBy}
use Rattle.std.specs.Ordering.{nat_cmp, ordering_index}
use Rattle.std.proofs.lemmas.Cmp.{ranked}
use Rattle.std.proofs.lemmas.List.Sorted.{IsNonDecreasingBy-from_default}
use Rattle.std.proofs.lemmas.Bool.Decides.{nat_tests}
use Rattle.relay_objects.specs.Rising.{RisesBy}

module _ {A : Type 0} (number : A → ℕ) where
  pub rises_sooner : (xs : List A) (m n : ℕ) → RisesBy number n xs → m ≤ n → RisesBy number m xs
  rises_sooner [] m n r le = tt
  rises_sooner (x ∷ xs) m n r le = (omega (arith, r.0), r.1)

  pub number_from : (xs : List A) (n i : ℕ) (d : A) → RisesBy number n xs → i < length xs → n ≤ number (get_or xs i d)
  number_from [] n i d r lt = absurd (omega arith)
  number_from (x ∷ xs) n zero d r lt = r.0
  number_from (x ∷ xs) n (suc i) d r lt = omega (arith, r.0, number_from xs (number x + 1) i d r.1 (omega arith))

  pub numbers_rise : (xs : List A) (n i j : ℕ) (d : A) → RisesBy number n xs → i < j → j < length xs →
      number (get_or xs i d) < number (get_or xs j d)
  numbers_rise [] n i j d r lt within = absurd (omega arith)
  numbers_rise (x ∷ xs) n zero zero d r lt within = absurd (omega arith)
  numbers_rise (x ∷ xs) n zero (suc j) d r lt within =
      omega (arith, number_from xs (number x + 1) j d r.1 (omega arith))
  numbers_rise (x ∷ xs) n (suc i) zero d r lt within = absurd (omega arith)
  numbers_rise (x ∷ xs) n (suc i) (suc j) d r lt within =
      numbers_rise xs (number x + 1) i j d r.1 (omega arith) (omega arith)

  -- two elements of one number are one
  pub one_number : (xs : List A) (n i j : ℕ) (d : A) → RisesBy number n xs → i < length xs → j < length xs →
      number (get_or xs i d) ≡ number (get_or xs j d) → i ≡ j
  one_number xs n i j d r in_i in_j same = grind (arith, numbers_rise xs n i j d r, numbers_rise xs n j i d r)

  rises_step : (x : A) (b : Bool) (n : ℕ) (xs : List A) → n ≤ number x → RisesBy number (number x + 1) xs →
      RisesBy number n (if b then x ∷ xs else xs)
  rises_step x true n xs le rest = (le, rest)
  rises_step x false n xs le rest = rises_sooner xs n (number x + 1) rest (omega arith)

  pub rises_filtered : (q : A → Bool) (xs : List A) (n : ℕ) → RisesBy number n xs → RisesBy number n (filter q xs)
  rises_filtered q [] n r = tt
  rises_filtered q (x ∷ xs) n r = rises_step x (q x) n (filter q xs) r.0 (rises_filtered q xs (number x + 1) r.1)

  module _ (xs : List A) (d : A) (r : RisesBy number 0 xs) (x : ℕ) where
    comparisons_rise : IsNonDecreasingBy (λ a. ordering_index (nat_cmp (number a) x)) xs
    comparisons_rise =
        IsNonDecreasingBy-from_default (λ a. ordering_index (nat_cmp (number a) x)) xs d (λ i j le within.
        let numbers : number (get_or xs i d) ≤ number (get_or xs j d) =
        grind (arith, numbers_rise xs 0 i j d r, λ (same : i ≡ j). ap (λ k. number (get_or xs k d)) same) in
        grind (arith, nat_tests))

    -- the search finds the number, or no element has it
    pub searched : (answer : Result ℕ ℕ) → IsSearchInRange answer (length xs) →
        IsBinarySearchResult (λ a. nat_cmp (number a) x) xs answer →
        record {
          found : IfOk answer (λ i. (i < length xs) × (number (get_or xs i d) ≡ x));
          absent : IfErr answer (λ at. (i : ℕ) → i < length xs → number (get_or xs i d) ≢ x);
        }
    searched (Ok at) within equal = record { found = (within, ranked _ x _ (sym (equal d))); absent = tt }
    searched (Err at) within parted = record {
      found = tt;
      absent = λ i lt same.
          let below = λ (l : i < at). ranked (number (get_or xs i d)) x _
          (sym ((parted comparisons_rise).0 i d (omega arith) l)) in
          let above = λ (l : at ≤ i). ranked (number (get_or xs i d)) x _
          (sym ((parted comparisons_rise).1 i d l lt)) in
          grind (arith, below, above);
    }

pub rises_mapped : {A B : Type 0} (number : A → ℕ) (other : B → ℕ) (f : A → B) → ((x : A) → other (f x) ≡ number x) →
    (xs : List A) (n : ℕ) → RisesBy number n xs → RisesBy other n (map f xs)
rises_mapped number other f same [] n r = tt
rises_mapped number other f same (x ∷ xs) n r =
    rw (same x) (r.0, rises_mapped number other f same xs (number x + 1) r.1)
