-- Rising numbers: those above one of them, those that some calls leave, and one more.
use Rattle.std.proofs.Common.{◌≡◌, ℕ, zero, suc, ◌+◌, ◌<◌, ◌≤◌, List, [], ◌∷◌, ◌++◌, length, drop, get_or, Bool, true, false, refl, sym, subst, arith, ⊎_elim, inl, inr}
use Rattle.std.specs.Prelude.{◌⊎◌, ◌||◌, ◌==◌, nat_le, MatchBool}
use Rattle.std.specs.List.{items_where_true}
use Rattle.std.specs.List.Retain.{IsFiltered, ReturnsInTurn}
use Rattle.std.specs.List.Sorted.{IsPartitionedBy, IsPartitionPoint}
use Rattle.std.proofs.lemmas.Bool.{true≢false, cases_lt, ne_eqb, eqb-true, eqb-false, le-leb, leb-true, leb-false}
use Rattle.broker_core.specs.Broker.{Broker}
use Rattle.c_broker.specs.Open.{IsDone, IsOpen, Rise, has}

-- bounds

pub rise_low : (low less : ℕ) (xs : List ℕ) (high : ℕ) → less ≤ low → Rise low xs high → Rise less xs high
rise_low low less [] high w r = tt
rise_low low less (x ∷ xs) high w r = (omega (arith, r.0), r.1, r.2)

rise_high : (low : ℕ) (xs : List ℕ) (high more : ℕ) → high ≤ more → Rise low xs high → Rise low xs more
rise_high low [] high more w r = tt
rise_high low (x ∷ xs) high more w r = (r.0, omega (arith, r.1), rise_high x xs high more w r.2)

-- what isn't among them

or_left : (a b : Bool) → (a || b) ≡ false → a ≡ false
or_left true b h = h
or_left false b h = refl

or_right : (a b : Bool) → (a || b) ≡ false → b ≡ false
or_right true b h = absurd (true≢false h)
or_right false b h = h

or_both : (a b : Bool) → a ≡ false → b ≡ false → (a || b) ≡ false
or_both true b h k = h
or_both false b h k = k

-- no number up to the lower bound is
pub none_below : (low : ℕ) (xs : List ℕ) (high q : ℕ) → Rise low xs high → q ≤ low → has q xs ≡ false
none_below low [] high q r w = refl
none_below low (x ∷ xs) high q r w =
    or_both (x == q) (has q xs) (ne_eqb x q (λ e. absurd (omega (arith, r.0))))
    (none_below x xs high q r.2 (omega (arith, r.0)))

-- nor is one that isn't among the others, and isn't the first
pub none_first : (x : ℕ) (xs : List ℕ) (q : ℕ) → (x ≡ q → ⊥) → has q xs ≡ false → has q (x ∷ xs) ≡ false
none_first x xs q other none = or_both (x == q) (has q xs) (ne_eqb x q other) none

-- one more

rise_push : (low : ℕ) (xs : List ℕ) (high : ℕ) → low ≤ high → Rise low xs high →
    Rise low (xs ++ (high + 1) ∷ []) (high + 1)
rise_push low [] high w r = (omega arith, omega arith, tt)
rise_push low (x ∷ xs) high w r = (r.0, omega (arith, r.1), rise_push x xs high r.1 r.2)

has_push : (q : ℕ) (xs : List ℕ) (y : ℕ) → has q (xs ++ y ∷ []) ≡ false → (has q xs ≡ false) × (y ≡ q → ⊥)
has_push q [] y h = (refl, eqb-false y q (or_left (y == q) false h))
has_push q (x ∷ xs) y h =
    let rest = has_push q xs y (or_right (x == q) (has q (xs ++ y ∷ [])) h) in
    (or_both (x == q) (has q xs) (or_left (x == q) (has q (xs ++ y ∷ [])) h) rest.0, rest.1)

pub open_push : (b : Broker) (xs : List ℕ) (seen : ℕ) → IsOpen b xs seen → IsOpen b (xs ++ (seen + 1) ∷ []) (seen + 1)
open_push b xs seen o = record {
  rise = rise_push 0 xs seen (omega arith) o.rise;
  others = λ q from upto none.
      let parts = has_push q xs ((seen + 1)) none in
      let other : (seen + 1) ≡ q → ⊥ = parts.1 in
      ⊎_elim (λ (l : q < (seen + 1)). o.others q from (omega arith) parts.0)
      (λ (g : (seen + 1) ≤ q). absurd (other (omega arith)))
      (cases_lt q ((seen + 1)));
}

-- those that a test leaves

module _ {P : Type 0} (R : P → ℕ → Bool → P → Type 0) (Dropped : ℕ → Type 0) (p : P)
    (says : (x : ℕ) (b : Bool) (q : P) → R p x b q → MatchBool b (Unit {0}) (Dropped x) × (q ≡ p)) where
  rise_left : (bs : List Bool) (low : ℕ) (xs : List ℕ) (high : ℕ) → Rise low xs high →
      Rise low (items_where_true bs xs) high
  rise_left [] low xs high r = tt
  rise_left (b ∷ bs) low [] high r = tt
  rise_left (true ∷ bs) low (x ∷ xs) high r = (r.0, r.1, rise_left bs x xs high r.2)
  rise_left (false ∷ bs) low (x ∷ xs) high r =
      rise_left bs low xs high (rise_low x low xs high (omega (arith, r.0)) r.2)

  -- the test is as it was at first
  on : (bs : List Bool) (x : ℕ) (b : Bool) (xs : List ℕ) (t : P) → ReturnsInTurn R p (b ∷ bs) (x ∷ xs) t →
      MatchBool b (Unit {0}) (Dropped x) × ReturnsInTurn R p bs xs t
  on bs x b xs t turns =
      let said = says x b turns.0 turns.1 in
      (said.0, subst (λ (q : P). ReturnsInTurn R q bs xs t) said.1 turns.2)

  dropped : (bs : List Bool) (xs : List ℕ) (t : P) (q : ℕ) → length bs ≡ length xs → ReturnsInTurn R p bs xs t →
      has q (items_where_true bs xs) ≡ false → (has q xs ≡ false) ⊎ Dropped q
  dropped [] [] t q long turns none = inl refl
  dropped [] (x ∷ xs) t q long turns none = absurd (omega arith)
  dropped (b ∷ bs) [] t q long turns none = absurd (omega arith)
  dropped (true ∷ bs) (x ∷ xs) t q long turns none =
      ⊎_elim
      (λ (n : has q xs ≡ false).
      inl (or_both (x == q) (has q xs) (or_left (x == q) (has q (items_where_true bs xs)) none) n))
      (λ (d : Dropped q). inr d)
      (dropped bs xs t q (omega arith) (on bs x true xs t turns).1
      (or_right (x == q) (has q (items_where_true bs xs)) none))
  dropped (false ∷ bs) (x ∷ xs) t q long turns none =
      ⊎_elim (λ (n : has q xs ≡ false). by (x == q) refl n) (λ (d : Dropped q). inr d)
      (dropped bs xs t q (omega arith) (on bs x false xs t turns).1 none)
    where
      by : (b : Bool) → (x == q) ≡ b → has q xs ≡ false → (has q (x ∷ xs) ≡ false) ⊎ Dropped q
      by true e n = inr (subst Dropped (eqb-true x q e) (on bs x false xs t turns).0)
      by false e n = inl (or_both (x == q) (has q xs) e n)

pub open_left : {P : Type 0} (R : P → ℕ → Bool → P → Type 0) (b : Broker) (p : P) →
    ((x : ℕ) (kept : Bool) (q : P) → R p x kept q → MatchBool kept (Unit {0}) (IsDone b x) × (q ≡ p)) →
    (xs ys : List ℕ) (seen : ℕ) → IsFiltered R p xs ys → IsOpen b xs seen → IsOpen b ys seen
open_left R b p says xs ys seen f o =
    let bs = f.0 in
    let is : ys ≡ items_where_true bs xs = f.4 in
    subst (λ (l : List ℕ). IsOpen b l seen) (sym is)
    (record {
      rise = rise_left R (IsDone b) p says bs 0 xs seen o.rise;
      others = λ q from upto none.
          ⊎_elim (λ (n : has q xs ≡ false). o.others q from upto n) (λ (d : IsDone b q). d)
          (dropped R (IsDone b) p says bs xs f.1 q f.2 f.3 none);
    })

-- those above a number

rise_all : (low : ℕ) (xs : List ℕ) (high i : ℕ) (d : ℕ) → Rise low xs high → i < length xs → low < get_or xs i d
rise_all low [] high i d r w = absurd (omega arith)
rise_all low (x ∷ xs) high zero d r w = r.0
rise_all low (x ∷ xs) high (suc i) d r w =
    let rest : x < get_or xs i d = rise_all x xs high i d r.2 (omega arith) in omega (arith, r.0)

rise_drop : (low : ℕ) (xs : List ℕ) (high n : ℕ) → Rise low xs high → Rise low (drop n xs) high
rise_drop low xs high zero r = r
rise_drop low [] high (suc n) r = tt
rise_drop low (x ∷ xs) high (suc n) r = rise_drop low xs high n (rise_low x low xs high (omega (arith, r.0)) r.2)

pub parted : (low : ℕ) (xs : List ℕ) (high after : ℕ) → Rise low xs high → IsPartitionedBy (λ x. nat_le x after) xs
parted low [] high after r i j d le within at = absurd (omega arith)
parted low (x ∷ xs) high after r zero zero d le within at = at
parted low (x ∷ xs) high after r zero (suc j) d le within at =
    let above : x < get_or xs j d = rise_all x xs high j d r.2 (omega arith) in
    le-leb x after (omega (arith, leb-true (get_or xs j d) after at))
parted low (x ∷ xs) high after r (suc i) zero d le within at = absurd (omega arith)
parted low (x ∷ xs) high after r (suc i) (suc j) d le within at =
    parted x xs high after r.2 i j d (omega arith) (omega arith) at

-- the first are up to the number, and the others above it
pub record IsAbove (xs : List ℕ) (after place : ℕ) : Type 0 where
  pub first : (k d : ℕ) → k < place → get_or xs k d ≤ after
  pub rest : (k d : ℕ) → place ≤ k → k < length xs → after < get_or xs k d

pub placed : (xs : List ℕ) (after place : ℕ) →
    IsPartitionPoint (λ x. nat_le x after ≡ true) (λ x. nat_le x after ≡ false) xs place → IsAbove xs after place
placed xs after place point = record {
  first = λ k d below. leb-true (get_or xs k d) after (point.0 k d (omega arith) below);
  rest = λ k d from within. leb-false (get_or xs k d) after (point.1 k d from within);
}

rise_first : (after : ℕ) (xs : List ℕ) (low high : ℕ) → Rise low xs high →
    (0 < length xs → after < get_or xs 0 0) → Rise after xs high
rise_first after [] low high r h = tt
rise_first after (x ∷ xs) low high r h = (h (omega arith), r.1, r.2)

pub rise_above : (xs : List ℕ) (after place low high : ℕ) → IsAbove xs after place → Rise low xs high →
    Rise after (drop place xs) high
rise_above xs after zero low high a r = rise_first after xs low high r (λ some. a.rest 0 0 (omega arith) some)
rise_above [] after (suc place) low high a r = tt
rise_above (x ∷ xs) after (suc place) low high a r =
    rise_above xs after place x high (tail xs x place a) r.2
  where
    tail : (xs : List ℕ) (x place : ℕ) → IsAbove (x ∷ xs) after (suc place) → IsAbove xs after place
    tail xs x place a = record {
      first = λ k d below. a.first (suc k) d (omega arith);
      rest = λ k d from within. a.rest (suc k) d (omega arith) (omega arith);
    }

pub has_above : (xs : List ℕ) (after place q : ℕ) → ((k d : ℕ) → k < place → k < length xs → get_or xs k d ≤ after) →
    after < q → has q (drop place xs) ≡ false → has q xs ≡ false
has_above xs after zero q a above none = none
has_above [] after (suc place) q a above none = refl
has_above (x ∷ xs) after (suc place) q a above none =
    let low : x ≤ after = a 0 0 (omega arith) (omega arith) in
    or_both (x == q) (has q xs) (ne_eqb x q (λ e. absurd (omega arith)))
    (has_above xs after place q (λ k d below within. a (suc k) d (omega arith) (omega arith)) above none)
