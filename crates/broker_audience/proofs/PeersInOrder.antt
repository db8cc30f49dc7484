-- Live peers in order: what a search finds, and that each change keeps the order.
use Rattle.std.proofs.Common.{◌≡◌, ℕ, zero, suc, ◌<◌, ◌≤◌, List, [], ◌∷◌, ◌++◌, length, get_or, map, Bool, true, false, if◌then◌else◌, Result, Ok, Err, IfOk, IfErr, sym, ap, refl, ◌∙◌, arith}
use Rattle.std.specs.List.{AllByRecursion, remove}
use Rattle.std.specs.List.Sorted.{IsSearchInRange, IsBinarySearchResult, IsNonDecreasingBy}
use Rattle.std.specs.Ordering.{nat_cmp, ordering_index}
use Rattle.std.proofs.lemmas.Cmp.{ranked}
use Rattle.std.proofs.lemmas.List.Sorted.{IsNonDecreasingBy-from_default}
use Rattle.std.proofs.lemmas.Bool.Decides.{nat_tests}
use Rattle.std.proofs.lemmas.List.{get_or-map, length-map}
use Rattle.out_store.specs.Queue.{queue, cells_of}
use Rattle.broker_model.specs.Groups.{pair_of}
use Rattle.broker_audience.specs.declared.live.Live.{Live}
use Rattle.broker_audience.specs.Lives.{AreOver, delivered, has_room}
use Rattle.broker_audience.specs.Visits.{IsAt, HasNone}

module _ {X : Type 0} (key : X → ℕ) where
  over_sooner : (live : List X) (p q : ℕ) → AreOver key q live → p ≤ q → AreOver key p live
  over_sooner [] p q over le = tt
  over_sooner (l ∷ live) p q over le = (omega (arith, over.0), over.1)

  pub key_over : (live : List X) (q i : ℕ) (d : X) → AreOver key q live → i < length live → q < key (get_or live i d)
  key_over [] q i d over lt = absurd (omega arith)
  key_over (l ∷ live) q zero d over lt = over.0
  key_over (l ∷ live) q (suc i) d over lt = omega (arith, over.0, key_over live (key l) i d over.1 (omega arith))

  pub keys_rise : (live : List X) (q i j : ℕ) (d : X) → AreOver key q live → i < j → j < length live →
      key (get_or live i d) < key (get_or live j d)
  keys_rise [] q i j d over lt within = absurd (omega arith)
  keys_rise (l ∷ live) q zero zero d over lt within = absurd (omega arith)
  keys_rise (l ∷ live) q zero (suc j) d over lt within = key_over live (key l) j d over.1 (omega arith)
  keys_rise (l ∷ live) q (suc i) zero d over lt within = absurd (omega arith)
  keys_rise (l ∷ live) q (suc i) (suc j) d over lt within =
      keys_rise live (key l) i j d over.1 (omega arith) (omega arith)

  -- no two are counted alike
  pub keys_apart : (live : List X) (q i j : ℕ) (d : X) → AreOver key q live → i < length live → j < length live →
      (i ≡ j → ⊥) →
      key (get_or live i d) ≡ key (get_or live j d) → ⊥
  keys_apart live q i j d over in_i in_j differs same =
      grind (arith, keys_rise live q i j d over, keys_rise live q j i d over)

  pub over_removed : (place : ℕ) (live : List X) (q : ℕ) → AreOver key q live → AreOver key q (remove live place)
  over_removed zero [] q over = tt
  over_removed (suc place) [] q over = tt
  over_removed zero (l ∷ live) q over = over_sooner live q (key l) over.1 (omega (arith, over.0))
  over_removed (suc place) (l ∷ live) q over = (over.0, over_removed place live (key l) over.1)

  pub over_pushed : (x : X) (live : List X) (q : ℕ) → AreOver key q live → q < key x →
      AllByRecursion (λ (m : X). key m < key x) live → AreOver key q (live ++ x ∷ [])
  over_pushed x [] q over lt all = (lt, tt)
  over_pushed x (l ∷ live) q over lt all = (over.0, over_pushed x live (key l) over.1 all.0 all.1)

  -- a list and what is counted of each of it: one is in order as the other is
  pub over_mapped : (live : List X) (q : ℕ) → AreOver key q live → AreOver (λ n. n) q (map key live)
  over_mapped [] q over = tt
  over_mapped (l ∷ live) q over = (over.0, over_mapped live (key l) over.1)

  pub over_unmapped : (live : List X) (q : ℕ) → AreOver (λ n. n) q (map key live) → AreOver key q live
  over_unmapped [] q over = tt
  over_unmapped (l ∷ live) q over = (over.0, over_unmapped live (key l) over.1)

  pub removed_mapped : (live : List X) (place : ℕ) → remove (map key live) place ≡ map key (remove live place)
  removed_mapped [] zero = refl
  removed_mapped [] (suc place) = refl
  removed_mapped (l ∷ live) zero = refl
  removed_mapped (l ∷ live) (suc place) = ap (λ ns. key l ∷ ns) (removed_mapped live place)

  -- and what is found in one is found in the other
  pub at_mapped : (live : List X) (x place : ℕ) (none : X) → IsAt key x live place →
      IsAt (λ n. n) x (map key live) place
  at_mapped live x place none at = record {
    within = rw (length-map live key) at.within;
    has = λ d. get_or-map key live place none d at.within ∙ at.has none;
  }

  pub at_unmapped : (live : List X) (x place : ℕ) → IsAt (λ n. n) x (map key live) place → IsAt key x live place
  at_unmapped live x place at =
      let within : place < length live = rw (length-map live key) at at.within in
      record { within = within; has = λ d. sym (get_or-map key live place d 0 within) ∙ at.has 0 }

  pub none_mapped : (live : List X) (x : ℕ) (d : X) → HasNone key x live → HasNone (λ n. n) x (map key live)
  none_mapped live x d none k e lt same =
      let within : k < length live = rw (length-map live key) at lt in
      none k d within (sym (get_or-map key live k d e within) ∙ same)

  pub none_unmapped : (live : List X) (x : ℕ) → HasNone (λ n. n) x (map key live) → HasNone key x live
  none_unmapped live x none k d lt same =
      none k 0 (rw (length-map live key) lt) (get_or-map key live k d 0 lt ∙ same)

  module _ (live : List X) (over : AreOver key 0 live) (x : ℕ) (none : X) where
    comparisons_rise : IsNonDecreasingBy (λ l. ordering_index (nat_cmp (key l) x)) live
    comparisons_rise =
        IsNonDecreasingBy-from_default (λ l. ordering_index (nat_cmp (key l) x)) live none (λ i j le within.
        let keys : key (get_or live i none) ≤ key (get_or live j none) =
        grind (arith, keys_rise live 0 i j none over, λ (same : i ≡ j). ap (λ n. key (get_or live n none)) same) in
        grind (arith, nat_tests))

  -- what a search by halves answers
  pub searched : (live : List X) → AreOver key 0 live → (x : ℕ) (r : Result ℕ ℕ) → IsSearchInRange r (length live) →
      IsBinarySearchResult (λ l. nat_cmp (key l) x) live r →
      record { found : IfOk r (IsAt key x live); absent : IfErr r (λ i. HasNone key x live) }
  searched live over x (Ok at) in_range equal =
      record { found = record { within = in_range; has = λ d. ranked _ x _ (sym (equal d)) }; absent = tt }
  searched live over x (Err at) in_range parted = record {
    found = tt;
    absent = λ i d lt same.
        let below = λ (l : i < at). ranked (key (get_or live i d)) x _
        (sym ((parted (comparisons_rise live over x d)).0 i d (omega arith) l)) in
        let above = λ (l : at ≤ i). ranked (key (get_or live i d)) x _
        (sym ((parted (comparisons_rise live over x d)).1 i d l lt)) in
        grind (arith, below, above);
  }

-- what a delivery leaves as it was

pub delivered_number : (l : Live) → (delivered l).number ≡ l.number
delivered_number l = step (has_room l)
  where
    step : (b : Bool) →
        (if b then record
        l {
          store = queue
              (l.store.cells ++ cells_of l.gathering.group.bytes (map pair_of l.gathering.group.tokens))
              l.store.capacity;
        }
        else record l { is_choked = true }).number ≡ l.number
    step true = refl
    step false = refl

pub delivered_label : (l : Live) → (delivered l).label ≡ l.label
delivered_label l = step (has_room l)
  where
    step : (b : Bool) →
        (if b then record
        l {
          store = queue
              (l.store.cells ++ cells_of l.gathering.group.bytes (map pair_of l.gathering.group.tokens))
              l.store.capacity;
        }
        else record l { is_choked = true }).label ≡ l.label
    step true = refl
    step false = refl
