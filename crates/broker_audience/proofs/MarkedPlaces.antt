-- Marked places: by rising place, each once.
use Rattle.std.proofs.Common.{◌≡◌, ℕ, zero, suc, ◌+◌, ◌-◌, ◌<◌, ◌≤◌, Bool, true, false, ◌||◌, ◌⊎◌, not, eqb, ltb, List, [], ◌∷◌, ◌++◌, length, get_or, take, map, filter, Result, Ok, Err, IfOk, IfErr, if◌then◌else◌, refl, sym, ap, ◌∙◌, arith, inl, inr}
use Rattle.std.specs.List.{insert}
use Rattle.std.specs.List.Sorted.{IsSearchInRange, IsBinarySearchResult, IsNonDecreasingBy}
use Rattle.std.specs.Ordering.{nat_cmp, ordering_index}
use Rattle.std.proofs.lemmas.Cmp.{ranked}
use Rattle.std.proofs.lemmas.Bool.{both_ways, cases_eq, cases_order, eq-eqb, ne_eqb, lt-ltb, le-ltb}
use Rattle.std.proofs.lemmas.List.Sorted.{IsNonDecreasingBy-from_default}
use Rattle.std.proofs.lemmas.Bool.Decides.{nat_tests}
use Rattle.broker_audience.specs.Marks.{is_marked, lowered, AreWithin}

pub within_sooner : (ms : List ℕ) (m k n : ℕ) → AreWithin k n ms → m ≤ k → AreWithin m n ms
within_sooner [] m k n w le = tt
within_sooner (p ∷ ps) m k n w le = (omega (arith, w.0), w.1, w.2)

pub within_later : (ms : List ℕ) (k n m : ℕ) → AreWithin k n ms → n ≤ m → AreWithin k m ms
within_later [] k n m w le = tt
within_later (p ∷ ps) k n m w le = (w.0, omega (arith, w.1), within_later ps (suc p) n m w.2 le)

pub at_least : (ms : List ℕ) (k n i d : ℕ) → AreWithin k n ms → i < length ms → k ≤ get_or ms i d
at_least [] k n i d w lt = absurd (omega arith)
at_least (m ∷ ms) k n zero d w lt = w.0
at_least (m ∷ ms) k n (suc i) d w lt = omega (arith, w.0, at_least ms (suc m) n i d w.2 (omega arith))

pub below : (ms : List ℕ) (k n i d : ℕ) → AreWithin k n ms → i < length ms → get_or ms i d < n
below [] k n i d w lt = absurd (omega arith)
below (m ∷ ms) k n zero d w lt = w.1
below (m ∷ ms) k n (suc i) d w lt = below ms (suc m) n i d w.2 (omega arith)

pub rises : (ms : List ℕ) (k n i j d : ℕ) → AreWithin k n ms → i ≤ j → j < length ms → get_or ms i d ≤ get_or ms j d
rises [] k n i j d w le lt = absurd (omega arith)
rises (m ∷ ms) k n zero zero d w le lt = omega arith
rises (m ∷ ms) k n zero (suc j) d w le lt = omega (arith, at_least ms (suc m) n j d w.2 (omega arith))
rises (m ∷ ms) k n (suc i) zero d w le lt = absurd (omega arith)
rises (m ∷ ms) k n (suc i) (suc j) d w le lt = rises ms (suc m) n i j d w.2 (omega arith) (omega arith)

pub unmarked_below : (ms : List ℕ) (p k n : ℕ) → AreWithin k n ms → p < k → is_marked p ms ≡ false
unmarked_below [] p k n w lt = refl
unmarked_below (m ∷ ms) p k n w lt =
    rw (ne_eqb m p (λ e. absurd (omega (arith, w.0)))) (unmarked_below ms p (suc m) n w.2 (omega (arith, w.0)))

-- there are no more than there are places
pub few : (ms : List ℕ) (k n : ℕ) → AreWithin k n ms → k ≤ n → length ms + k ≤ n
few [] k n w le = omega arith
few (m ∷ ms) k n w le = omega (arith, w.0, few ms (suc m) n w.2 (omega (arith, w.1)))

or_swap : (a b c : Bool) → (a || (b || c)) ≡ (b || (a || c))
or_swap true true c = refl
or_swap true false c = refl
or_swap false b c = refl

or_again : (a b : Bool) → (a || b) ≡ (a || (a || b))
or_again true b = refl
or_again false b = refl

module _ (ms : List ℕ) (n : ℕ) (within : AreWithin 0 n ms) (x : ℕ) where
  comparisons_rise : IsNonDecreasingBy (λ m. ordering_index (nat_cmp m x)) ms
  comparisons_rise = IsNonDecreasingBy-from_default (λ m. ordering_index (nat_cmp m x)) ms 0 (λ i j le lt.
      let order : get_or ms i 0 ≤ get_or ms j 0 = rises ms 0 n i j 0 within le lt in
      grind (arith, nat_tests))

  -- what a search by halves answers: where the mark is, or where it would go
  pub searched : (r : Result ℕ ℕ) → IsSearchInRange r (length ms) → IsBinarySearchResult (λ m. nat_cmp m x) ms r →
      record {
        found : IfOk r (λ at. (at < length ms) × ((d : ℕ) → get_or ms at d ≡ x));
        low : IfErr r (λ at. (i d : ℕ) → i < at → i < length ms → get_or ms i d < x);
        high : IfErr r (λ at. (i d : ℕ) → at ≤ i → i < length ms → x < get_or ms i d);
      }
  searched (Ok at) in_range equal =
      record { found = (in_range, λ d. ranked _ x _ (sym (equal d))); low = tt; high = tt }
  searched (Err at) in_range parted = record {
    found = tt;
    low = λ i d l lt. ranked (get_or ms i d) x _ (sym ((parted comparisons_rise).0 i d (omega arith) l));
    high = λ i d l lt. ranked (get_or ms i d) x _ (sym ((parted comparisons_rise).1 i d l lt));
  }

pub insert_within : (ms : List ℕ) (k n p at : ℕ) → AreWithin k n ms → k ≤ p → p < n →
    ((i d : ℕ) → i < at → i < length ms → get_or ms i d < p) →
    ((i d : ℕ) → at ≤ i → i < length ms → p < get_or ms i d) → AreWithin k n (insert ms at p)
insert_within [] k n p zero w le lt low high = (le, lt, tt)
insert_within [] k n p (suc at) w le lt low high = (le, lt, tt)
insert_within (m ∷ ms) k n p zero w le lt low high = (le, lt, (high 0 m (omega arith) (omega arith), w.1, w.2))
insert_within (m ∷ ms) k n p (suc at) w le lt low high = (
  w.0,
  w.1,
  insert_within ms (suc m) n p at w.2 (low 0 m (omega arith) (omega arith)) lt
      (λ i d l h. low (suc i) d (omega arith) (omega arith)) (λ i d l h. high (suc i) d (omega arith) (omega arith)),
)

pub insert_marked : (ms : List ℕ) (p at k : ℕ) → is_marked k (insert ms at p) ≡ (eqb p k || is_marked k ms)
insert_marked ms p zero k = refl
insert_marked [] p (suc at) k = refl
insert_marked (m ∷ ms) p (suc at) k = rw (insert_marked ms p at k) (or_swap (eqb m k) (eqb p k) (is_marked k ms))

-- what is marked already needs no mark
pub already : (ms : List ℕ) (p at d k : ℕ) → at < length ms → get_or ms at d ≡ p →
    is_marked k ms ≡ (eqb p k || is_marked k ms)
already [] p at d k lt is = absurd (omega arith)
already (m ∷ ms) p zero d k lt is = rw is (or_again (eqb p k) (is_marked k ms))
already (m ∷ ms) p (suc at) d k lt is =
    ap (λ b. eqb m k || b) (already ms p at d k (omega arith) is) ∙ or_swap (eqb m k) (eqb p k) (is_marked k ms)

pub marked_more : (ms : List ℕ) (p k : ℕ) → is_marked k (ms ++ p ∷ []) ≡ (is_marked k ms || eqb p k)
marked_more [] p k = or_false (eqb p k)
  where
    or_false : (b : Bool) → (b || false) ≡ b
    or_false true = refl
    or_false false = refl
marked_more (m ∷ ms) p k = rw (marked_more ms p k) (or_assoc (eqb m k) (is_marked k ms) (eqb p k))
  where
    or_assoc : (a b c : Bool) → (a || (b || c)) ≡ ((a || b) || c)
    or_assoc true b c = refl
    or_assoc false b c = refl

-- a place isn't among those before it
pub not_before : (ms : List ℕ) (k n i d : ℕ) → AreWithin k n ms → i < length ms →
    is_marked (get_or ms i d) (take i ms) ≡ false
not_before [] k n i d w lt = absurd (omega arith)
not_before (m ∷ ms) k n zero d w lt = refl
not_before (m ∷ ms) k n (suc i) d w lt =
    let above = at_least ms (suc m) n i d w.2 (omega arith) in
    rw (ne_eqb m (get_or ms i d) (λ e. absurd (omega (arith, above)))) (not_before ms (suc m) n i d w.2 (omega arith))

-- the marks once the element at the place left
abbrev pub left_out : ℕ → List ℕ → List ℕ
left_out p ms = map (lowered p) (filter (λ m. not (eqb m p)) ms)

out_past : (ms : List ℕ) (k n p : ℕ) → AreWithin (suc k) (suc n) ms → p ≤ k → AreWithin k n (left_out p ms)
out_past [] k n p w le = tt
out_past (m ∷ ms) k n p w le =
    let other : eqb m p ≡ false = ne_eqb m p (λ e. absurd (omega (arith, w.0))) in
    let above : ltb p m ≡ true = lt-ltb p m (omega (arith, w.0)) in
    let next : suc (m - 1) ≡ m = omega (arith, w.0) in
    let rest : AreWithin (suc (m - 1)) n (left_out p ms) = rw next (out_past ms m n p w.2 (omega (arith, w.0))) in
    rw (other, above) (omega (arith, w.0), omega (arith, w.0, w.1), rest)

pub out_within : (ms : List ℕ) (k n p : ℕ) → AreWithin k (suc n) ms → p ≤ n → k ≤ p → AreWithin k n (left_out p ms)
out_within [] k n p w le from = tt
out_within (m ∷ ms) k n p w le from = elim (cases_order m p) [
  | inl same ↦
      let is : eqb m p ≡ true = eq-eqb m p same in
      rw is (within_sooner (left_out p ms) k p n (out_past ms p n p (rw same at w.2) (omega arith)) from)
  | inr differs ↦ elim differs [
    | inl less ↦
        let other : eqb m p ≡ false = ne_eqb m p (λ e. absurd (omega arith)) in
        let above : ltb p m ≡ false = le-ltb p m (omega arith) in
        rw (other, above) (w.0, omega arith, out_within ms (suc m) n p w.2 le less)
    | inr more ↦ within_sooner (left_out p (m ∷ ms)) k p n (out_past (m ∷ ms) p n p (more, w.1, w.2) (omega arith)) from
  ]
]

pub out_marked : (ms : List ℕ) (p k : ℕ) → is_marked k (left_out p ms) ≡ is_marked (if ltb k p then k else suc k) ms
out_marked [] p k = refl
out_marked (m ∷ ms) p k = elim (cases_order m p) [
  | inl same ↦
      let is : eqb m p ≡ true = eq-eqb m p same in
      let other : eqb m (if ltb k p then k else suc k) ≡ false = grind (arith, nat_tests) in
      rw (is, other) (out_marked ms p k)
  | inr differs ↦
      let other : eqb m p ≡ false =
      ne_eqb m p (λ e. elim differs [ inl l ↦ absurd (omega arith) | inr g ↦ absurd (omega arith) ]) in
      let same : eqb (lowered p m) k ≡ eqb m (if ltb k p then k else suc k) = test differs in
      rw (other, same, out_marked ms p k) refl
]
  where
    test : (m < p) ⊎ (p < m) → eqb (lowered p m) k ≡ eqb m (if ltb k p then k else suc k)
    test (inl l) = grind (arith, nat_tests)
    test (inr g) = grind (arith, nat_tests)

-- what is marked below the place stands before it
pub marked_before : (ms : List ℕ) (k n i d p : ℕ) → AreWithin k n ms → i < length ms → p < get_or ms i d →
    is_marked p ms ≡ true → is_marked p (take i ms) ≡ true
marked_before [] k n i d p w lt less on = absurd (omega arith)
marked_before (m ∷ ms) k n zero d p w lt less on =
    let no : is_marked p (m ∷ ms) ≡ false = unmarked_below (m ∷ ms) p m n (omega arith, w.1, w.2) less in
    absurd (both_ways (is_marked p (m ∷ ms)) no on)
marked_before (m ∷ ms) k n (suc i) d p w lt less on = elim (cases_eq m p) [
  | inl same ↦ rw (eq-eqb m p same) refl
  | inr other ↦ rw (ne_eqb m p other)
      (marked_before ms (suc m) n i d p w.2 (omega arith) less (rw (ne_eqb m p other) at on))
]
