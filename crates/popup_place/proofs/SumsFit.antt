-- sums of a few i32 that are made in i64, and what the two edges keep
use Rattle.std.proofs.Common.{arith, ◌≡◌, ◌∙◌, ap, ◌⊎◌, inl, inr, ◌^◌, ◌≤ℤ◌, ℤ, pos, ◌+ℤ◌, ◌-ℤ◌, ◌&&◌, true, FitsSigned, to_z, of_z, w64}
use Rattle.std.specs.Int.{w32, int_min, int_max}
use Rattle.std.specs.Prelude.{int_le}
use Rattle.std.proofs.lemmas.Int.{ints, clamps, to_z-of_z}

-- an i64 as a goal writes it
abbrev pub made : ℤ → ℤ
made a = to_z w64 (of_z w64 a)

-- an i32 that is cast to i64
abbrev pub wide : ℤ → ℤ
wide a = to_z w64 (of_z w64 (to_z w32 (of_z w32 a)))

pub made_is : (a : ℤ) → FitsSigned w64 a → made a ≡ a
made_is a p = to_z-of_z w64 a p

pub sum_is : (a b : ℤ) → FitsSigned w32 a → FitsSigned w32 b → made (wide a +ℤ wide b) ≡ a +ℤ b
sum_is a b p q = omega (arith, ints)

pub difference_is : (a b : ℤ) → FitsSigned w32 a → FitsSigned w32 b → made (wide a -ℤ wide b) ≡ a -ℤ b
difference_is a b p q = omega (arith, ints)

pub three_sum_is : (a b d : ℤ) → FitsSigned w32 a → FitsSigned w32 b → FitsSigned w32 d →
    made (made (wide a +ℤ wide b) +ℤ wide d) ≡ (a +ℤ b) +ℤ d
three_sum_is a b d p q r = omega (arith, ints)

pub three_difference_is : (a b d : ℤ) → FitsSigned w32 a → FitsSigned w32 b → FitsSigned w32 d →
    made (made (wide a +ℤ wide b) -ℤ wide d) ≡ (a +ℤ b) -ℤ d
three_difference_is a b d p q r = omega (arith, ints)

-- a sum is at most a limit where one summand is at most the limit less the other
int_le-sub : (y h limit : ℤ) → int_le y (limit -ℤ h) ≡ int_le (y +ℤ h) limit
int_le-sub y h limit = grind (arith, ints)

fits_from_zero : (y h limit m d : ℤ) → m ≡ y → d ≡ limit -ℤ h → int_le (pos 0) m ≡ true →
    int_le m d ≡ (int_le (pos 0) y && int_le (y +ℤ h) limit)
fits_from_zero y h limit m d e f from_zero = rw (f, e) (rw (rw e at from_zero) (int_le-sub y h limit))

pub fits_is : (y h limit : ℤ) → FitsSigned w64 y → FitsSigned w32 h → FitsSigned w32 limit →
    int_le (pos 0) (made y) ≡ true →
    int_le (made y) (made (wide limit -ℤ wide h)) ≡ (int_le (pos 0) y && int_le (y +ℤ h) limit)
fits_is y h limit p q r from_zero =
    fits_from_zero y h limit (made y) (made (wide limit -ℤ wide h)) (made_is y p) (difference_is limit h r q) from_zero

-- the code's smaller and larger of two are those of the rule
pub left_edge_is : (left w screen m x : ℤ) → FitsSigned w64 left → FitsSigned w32 w → FitsSigned w32 screen →
    FitsSigned w64 m → FitsSigned w64 x → m ≡ int_min (made left) (made (wide screen -ℤ wide w)) →
    x ≡ int_max (made m) (pos 0) → made x ≡ int_max (int_min left (screen -ℤ w)) (pos 0)
left_edge_is left w screen m x p q r s t e f =
    made_is x t ∙ f
    ∙ ap (λ v. int_max v (pos 0))
    (made_is m s ∙ e ∙ ap (λ v. int_min v (made (wide screen -ℤ wide w))) (made_is left p)
    ∙ ap (λ v. int_min left v) (difference_is screen w r q))

-- a popup that isn't wider than the screen lies inside it
pub left_edge_inside : (left w screen : ℤ) → w ≤ℤ screen →
    (pos 0 ≤ℤ int_max (int_min left (screen -ℤ w)) (pos 0))
    × (int_max (int_min left (screen -ℤ w)) (pos 0) +ℤ w) ≤ℤ screen
left_edge_inside left w screen h = (omega (arith, ints, clamps), omega (arith, ints, clamps))

pub left_edge_at_most : (left w screen : ℤ) → FitsSigned w32 w → FitsSigned w32 screen →
    int_max (int_min left (screen -ℤ w)) (pos 0) ≤ℤ pos (2 ^ 32)
left_edge_at_most left w screen p q = omega (arith, ints, clamps)

-- what the popup sees of the left edge doesn't overflow
pub seen_left_fits : (a b x : ℤ) → FitsSigned w32 a → FitsSigned w32 b → FitsSigned w64 x → pos 0 ≤ℤ x →
    x ≤ℤ pos (2 ^ 32) → FitsSigned w64 (made (wide a +ℤ wide b) -ℤ made x)
seen_left_fits a b x p q r s t = rw (sum_is a b p q, made_is x r) (grind (arith, ints))

under_fits : (a b d y : ℤ) → FitsSigned w32 a → FitsSigned w32 b → FitsSigned w32 d → y ≡ (a +ℤ b) +ℤ d →
    FitsSigned w64 ((a +ℤ b) -ℤ y)
under_fits a b d y p q r e = rw e (grind (arith, ints))

above_fits : (a b d y : ℤ) → FitsSigned w32 a → FitsSigned w32 b → FitsSigned w32 d → y ≡ (a +ℤ b) -ℤ d →
    FitsSigned w64 ((a +ℤ b) -ℤ y)
above_fits a b d y p q r e = rw e (grind (arith, ints))

-- nor does what it sees of the top edge, under and above
pub seen_top_fits : (a b h k y : ℤ) → FitsSigned w32 a → FitsSigned w32 b → FitsSigned w32 h → FitsSigned w32 k →
    FitsSigned w64 y → (y ≡ made (made (wide a +ℤ wide b) +ℤ wide h)) ⊎ (y ≡ made (made (wide a +ℤ wide b) -ℤ wide k)) →
    FitsSigned w64 (made (wide a +ℤ wide b) -ℤ made y)
seen_top_fits a b h k y p q r s t either =
    rw (sum_is a b p q, made_is y t)
    (elim either [
      | inl u ↦ under_fits a b h y p q r (u ∙ three_sum_is a b h p q r)
      | inr v ↦ above_fits a b k y p q s
          (v ∙ three_difference_is a b k p q s)
    ])
