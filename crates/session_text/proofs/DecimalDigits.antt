-- The number of decimal digits that are read from the left.
use Rattle.std.proofs.Common.{◌≡◌, ℕ, ◌+◌, ◌-◌, ◌*◌, ◌^◌, ◌<◌, ◌≤◌, List, [], ◌∷◌, ◌++◌, length, take, get_or, zero, suc, sym, subst, add-one, arith}
use Rattle.std.proofs.Math.Nat.{pow-suc, pow-le-pow_right}
use Rattle.std.specs.Char.{digit_value}
use Rattle.std.specs.Int.{IsInRange}
use Rattle.std.specs.Str.Parse.{AllDigits, digits_value}
use Rattle.std.proofs.lemmas.List.{take_more}
use Rattle.std.proofs.lemmas.Int.Digits.{digits_value_more}
use Rattle.std.proofs.lemmas.Str.{digit_value_digit}
use Rattle.std.proofs.lemmas.Str.Parse.{digit_from_value}

-- one more digit behind others
pub digits_behind : (ds : List ℕ) (c : ℕ) → AllDigits 10 ds → digit_value c < 10 → AllDigits 10 (ds ++ c ∷ [])
digits_behind [] c h d = (d, tt)
digits_behind (x ∷ xs) c h d = (h.0, digits_behind xs c h.1 d)

pub digits_more : (ds : List ℕ) (i : ℕ) → i < length ds → AllDigits 10 (take i ds) → digit_value (get_or ds i 0) < 10
    → AllDigits 10 (take (i + 1) ds)
digits_more ds i lt h d =
    subst (AllDigits 10) (sym (take_more ds i 0 lt)) (digits_behind (take i ds) (get_or ds i 0) h d)

-- each of them is a digit
pub digit_among : (ds : List ℕ) (i : ℕ) → AllDigits 10 ds → i < length ds → IsInRange 48 57 (get_or ds i 0)
digit_among [] i h lt = absurd (omega arith)
digit_among (x ∷ xs) zero h lt = digit_from_value x h.0
digit_among (x ∷ xs) (suc i) h lt = digit_among xs i h.1 (omega arith)

-- ten times the number so far and the digit
pub value_more : (ds : List ℕ) (i n : ℕ) → i < length ds → IsInRange 48 57 (get_or ds i 0) →
    n ≡ digits_value 10 (take i ds)
    → 10 * n + (get_or ds i 0 - 48) ≡ digits_value 10 (take (i + 1) ds)
value_more ds i n lt range is =
    let digit : digit_value (get_or ds i 0) + 48 ≡ get_or ds i 0 = digit_value_digit (get_or ds i 0) range in
    let more : digits_value 10 (take (i + 1) ds) ≡ digits_value 10 (take i ds) * 10 + digit_value (get_or ds i 0) =
    digits_value_more 10 ds i lt in
    omega (arith, is, digit, more)

-- of at most nineteen digits no sum wraps
pub tenfold_fits : (n i : ℕ) → i < 19 → n < 10 ^ i → 10 * n + 9 < 2 ^ 64
tenfold_fits n i lt small = let le : i ≤ 18 = omega (arith, lt) in let most : 10 ^ i ≤ 10 ^ 18 =
    pow-le-pow_right {n = 10} (omega arith) le in omega (arith, small, most)

pub value_small : (n d i : ℕ) → n < 10 ^ i → d < 10 → 10 * n + d < 10 ^ (i + 1)
value_small n d i small lt =
    let tenfold : 10 ^ (i + 1) ≡ 10 ^ i * 10 = rw add-one (pow-suc 10 i) in
    omega (arith, tenfold)
