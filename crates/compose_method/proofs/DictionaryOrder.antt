-- The order of a dictionary, and fronts of lists in it.
use Rattle.std.proofs.Common.{◌≡◌, ℕ, ◌<◌, ◌≤◌, true, false, List, [], ◌∷◌, ◌++◌, length, drop, refl, sym, ap, ⊎_elim, ◌⊎◌, arith}
use Rattle.std.specs.Prelude.{nat_eq}
use Rattle.std.specs.List.{starts_with}
use Rattle.std.specs.declared.cmp.Ordering.{Ordering}
use Rattle.std.specs.declared.cmp.Ordering.TheVariants.{Less, Equal, Greater}
use Rattle.std.specs.Ordering.{is_le, is_gt, nat_cmp, ordering_reverse}
use Rattle.std.specs.Cmp.Lexicographic.{slice_cmp, nat_list_cmp_total}
use Rattle.std.specs.Cmp.{upto}
use Rattle.std.proofs.lemmas.Bool.{cases_order, and_parts, eqb-true, eq-eqb, false≢true}
use Rattle.std.proofs.lemmas.Bool.Decides.{nat_tests}
use Rattle.compose_method.specs.Order.{up_to}

cmp_tied : (x y : ℕ) → x ≡ y → nat_cmp x y ≡ Equal
cmp_tied x y h = grind (arith, nat_tests)

cmp_above : (x y : ℕ) → y < x → nat_cmp x y ≡ Greater
cmp_above x y h = grind (arith, nat_tests)

-- keys stand before all that begin with them
pub up_to-front : (a c : List ℕ) → up_to a (a ++ c) ≡ true
up_to-front [] [] = refl
up_to-front [] (x ∷ c) = refl
up_to-front (x ∷ a) c = rw (cmp_tied x x refl) (up_to-front a c)

-- what stands between keys and keys that begin with them begins with them too
pub between : (a b c : List ℕ) → up_to a b ≡ true → up_to b (a ++ c) ≡ true → starts_with nat_eq b a ≡ true
between [] b c h k = refl
between (x ∷ a) [] c h k = absurd (false≢true h)
between (x ∷ a) (y ∷ b) c h k =
    ⊎_elim (λ (same : x ≡ y).
    let deeper : starts_with nat_eq b a ≡ true =
    between a b c (rw (cmp_tied x y same) at h) (rw (cmp_tied y x (sym same)) at k) in
    rw (eq-eqb x y same) deeper)
    (λ (other : (x < y) ⊎ (y < x)).
    ⊎_elim (λ (l : x < y). absurd (false≢true (rw (cmp_above y x l) at k)))
    (λ (g : y < x). absurd (false≢true (rw (cmp_above x y g) at h))) other)
    (cases_order x y)

pub begins_itself : (a : List ℕ) → starts_with nat_eq a a ≡ true
begins_itself [] = refl
begins_itself (x ∷ a) = rw (eq-eqb x x refl) (begins_itself a)

-- keys that begin others stand before them, and the others don't stand before the keys, unless they are the same
pub front_is : (a b : List ℕ) → starts_with nat_eq b a ≡ true → b ≡ a ++ drop (length a) b
front_is [] b h = refl
front_is (x ∷ a) [] h = absurd (false≢true h)
front_is (x ∷ a) (y ∷ b) h =
    let parts = and_parts _ _ h in
    let same : x ≡ y = eqb-true x y parts.0 in
    rw same (ap (λ r. y ∷ r) (front_is a b parts.1))

pub up_to-begins : (a b : List ℕ) → starts_with nat_eq b a ≡ true → up_to a b ≡ true
up_to-begins a b h = rw (front_is a b h) (up_to-front a (drop (length a) b))

pub up_to-longer : (a b : List ℕ) → starts_with nat_eq b a ≡ true → length a < length b → up_to b a ≡ false
up_to-longer [] [] h l = absurd (omega arith)
up_to-longer [] (y ∷ b) h l = refl
up_to-longer (x ∷ a) [] h l = absurd (omega arith)
up_to-longer (x ∷ a) (y ∷ b) h l =
    let parts = and_parts _ _ h in
    rw (cmp_tied y x (sym (eqb-true x y parts.0))) (up_to-longer a b parts.1 (omega arith))

pub up_to-no_longer : (a b : List ℕ) → starts_with nat_eq b a ≡ true → length b ≤ length a →
    (up_to b a ≡ true) × (starts_with nat_eq a b ≡ true)
up_to-no_longer [] [] h l = (refl, refl)
up_to-no_longer [] (y ∷ b) h l = absurd (omega arith)
up_to-no_longer (x ∷ a) [] h l = absurd (false≢true h)
up_to-no_longer (x ∷ a) (y ∷ b) h l =
    let parts = and_parts _ _ h in
    let same : y ≡ x = sym (eqb-true x y parts.0) in
    let deeper = up_to-no_longer a b parts.1 (omega arith) in
    (rw (cmp_tied y x same) deeper.0, rw (eq-eqb y x same) deeper.1)

-- the order chains, and of two keys one stands before the other
le_gt : (o : Ordering) → is_le o ≡ true → is_gt o ≡ false
le_gt Less h = refl
le_gt Equal h = refl
le_gt Greater h = absurd (false≢true h)

gt_le : (o : Ordering) → is_gt o ≡ false → is_le o ≡ true
gt_le Less h = refl
gt_le Equal h = refl
gt_le Greater h = absurd (false≢true (sym h))

pub up_to-trans : (a b c : List ℕ) → up_to a b ≡ true → up_to b c ≡ true → up_to a c ≡ true
up_to-trans a b c h k = gt_le _ (upto nat_list_cmp_total a b c (le_gt _ h) (le_gt _ k))

turned : (o : Ordering) → is_le o ≡ false → is_le (ordering_reverse o) ≡ true
turned Less h = absurd (false≢true (sym h))
turned Equal h = absurd (false≢true (sym h))
turned Greater h = refl

pub up_to-turned : (a b : List ℕ) → up_to a b ≡ false → up_to b a ≡ true
up_to-turned a b h = rw (nat_list_cmp_total.antisymm b a) (turned (slice_cmp nat_cmp a b) h)
