-- Digits that decode are printed again as they stand exactly where none is an upper-case letter.
use Rattle.std.proofs.Common.{◌≡◌, ℕ, ◌+◌, ◌-◌, ◌*◌, ◌/◌, ◌%◌, ◌<◌, ◌≤◌, Bool, true, false, eqb, ◌&&◌, List, [], ◌∷◌, length, Option, Some, None, Result, Ok, Err, zero, suc, refl, sym, ap, ◌∙◌, arith}
use Rattle.std.specs.Prelude.{not, ◌||◌, slice_index, nat_le, unwrap_or, if◌then◌else◌}
use Rattle.std.specs.List.{list_any}
use Rattle.std.specs.Char.{is_ascii_uppercase}
use Rattle.std.specs.Str.{bytes_eq}
use Rattle.std.specs.Result.{result_unwrap_or}
use Rattle.std.proofs.lemmas.Bool.{and_parts, leb-true}
use Rattle.hex.specs.Hex.{lower_digits, encode_lower, encode_with, hex_digit_value, digit_or_error, value_at, pair_value, decode_pairs, decode_of, ◌>>=◌}
use Rattle.hex.specs.declared.error.FromHexError.{FromHexError}
use Rattle.hex.specs.declared.error.FromHexError.TheVariants.{OddLength}

pub low_digit : (v : ℕ) → v < 10 → slice_index lower_digits v ≡ 48 + v
low_digit zero lt = refl
low_digit (suc zero) lt = refl
low_digit (suc (suc zero)) lt = refl
low_digit (suc (suc (suc zero))) lt = refl
low_digit (suc (suc (suc (suc zero)))) lt = refl
low_digit (suc (suc (suc (suc (suc zero))))) lt = refl
low_digit (suc (suc (suc (suc (suc (suc zero)))))) lt = refl
low_digit (suc (suc (suc (suc (suc (suc (suc zero))))))) lt = refl
low_digit (suc (suc (suc (suc (suc (suc (suc (suc zero)))))))) lt = refl
low_digit (suc (suc (suc (suc (suc (suc (suc (suc (suc zero))))))))) lt = refl
low_digit (suc (suc (suc (suc (suc (suc (suc (suc (suc (suc v)))))))))) lt = absurd (omega arith)

pub letter_digit : (v : ℕ) → v < 6 → slice_index lower_digits (10 + v) ≡ 97 + v
letter_digit zero lt = refl
letter_digit (suc zero) lt = refl
letter_digit (suc (suc zero)) lt = refl
letter_digit (suc (suc (suc zero))) lt = refl
letter_digit (suc (suc (suc (suc zero)))) lt = refl
letter_digit (suc (suc (suc (suc (suc zero))))) lt = refl
letter_digit (suc (suc (suc (suc (suc (suc v)))))) lt = absurd (omega arith)

-- a digit's value is printed as the digit, unless that is an upper-case letter
digit_again : (c v : ℕ) → hex_digit_value c ≡ Some v →
    (v < 16) × (eqb (slice_index lower_digits v) c ≡ not (is_ascii_uppercase c))
digit_again c v h =
    at (nat_le 65 c && nat_le c 70) (nat_le 97 c && nat_le c 102) (nat_le 48 c && nat_le c 57) refl refl refl h
  where
    at : (l m n : Bool) → (nat_le 65 c && nat_le c 70) ≡ l → (nat_le 97 c && nat_le c 102) ≡ m →
        (nat_le 48 c && nat_le c 57) ≡ n
        → (if l then Some (c - 55) else if m then Some (c - 87) else if n then Some (c - 48) else None) ≡ Some v
        → (v < 16) × (eqb (slice_index lower_digits v) c ≡ not (is_ascii_uppercase c))
    at true m n a b d e =
        let is : c - 55 ≡ v = ap (λ o. unwrap_or o 0) e in
        let (low, high) = and_parts (nat_le 65 c) (nat_le c 70) a in
        let low : 65 ≤ c = leb-true 65 c low in
        let high : c ≤ 70 = leb-true c 70 high in
        let ten : 10 + (v - 10) ≡ v = omega arith in
        let digit : slice_index lower_digits v ≡ c + 32 =
        ap (slice_index lower_digits) (sym ten) ∙ letter_digit (v - 10) (omega arith) ∙ omega arith in
        (omega arith, rw digit (grind arith))
    at false true n a b d e =
        let is : c - 87 ≡ v = ap (λ o. unwrap_or o 0) e in
        let (low, high) = and_parts (nat_le 97 c) (nat_le c 102) b in
        let low : 97 ≤ c = leb-true 97 c low in
        let high : c ≤ 102 = leb-true c 102 high in
        let ten : 10 + (v - 10) ≡ v = omega arith in
        let digit : slice_index lower_digits v ≡ c =
        ap (slice_index lower_digits) (sym ten) ∙ letter_digit (v - 10) (omega arith) ∙ omega arith in
        (omega arith, rw digit (grind arith))
    at false false true a b d e =
        let is : c - 48 ≡ v = ap (λ o. unwrap_or o 0) e in
        let (low, high) = and_parts (nat_le 48 c) (nat_le c 57) d in
        let low : 48 ≤ c = leb-true 48 c low in
        let high : c ≤ 57 = leb-true c 57 high in
        let small : v < 10 = omega arith in
        let digit : slice_index lower_digits v ≡ c = low_digit v small ∙ omega arith in
        (omega arith, rw digit (grind arith))
    at false false false a b d e = cc e

value_read : (c i v : ℕ) (o : Option ℕ) → digit_or_error c i o ≡ Ok v → o ≡ Some v
value_read c i v (Some w) h = ap Some (ap (λ (r : Result ℕ FromHexError). result_unwrap_or r 0) h)
value_read c i v None h = cc h

first_ok : {A B : Type 0} (r : Result A FromHexError) (f : A → Result B FromHexError) (y : B)
    → (r >>= f) ≡ Ok y → (x : A) × (r ≡ Ok x) × (f x ≡ Ok y)
first_ok (Ok x) f y h = (x, refl, h)
first_ok (Err e) f y h = cc h

-- two digits and more
again_by : (p q r x y z : Bool) → p ≡ not x → q ≡ not y → r ≡ not z → (p && (q && r)) ≡ not (x || (y || z))
again_by p q r true y z a b d = rw a refl
again_by p q r false true z a b d = rw (a, b) refl
again_by p q r false false z a b d = rw (a, b) d

pairs_again : (i : ℕ) (word bytes : List ℕ) → decode_pairs i word ≡ Ok bytes
    → bytes_eq (encode_lower bytes) word ≡ not (list_any is_ascii_uppercase word)
unfolding decode_pairs encode_with
pairs_again i [] bytes h =
    let e : [] ≡ bytes = ap (λ (r : Result (List ℕ) FromHexError). result_unwrap_or r []) h in rw (← e) refl
pairs_again i (a ∷ []) bytes h = cc h
pairs_again i (a ∷ b ∷ rest) bytes h =
    let pair = first_ok (pair_value a b i) _ bytes h in
    let high = first_ok (value_at a i) _ pair.0 pair.1 in
    let low = first_ok (value_at b (i + 1)) _ pair.0 high.2 in
    let others = first_ok (decode_pairs (i + 2) rest) _ bytes pair.2 in
    let e : pair.0 ∷ others.0 ≡ bytes = ap (λ (r : Result (List ℕ) FromHexError). result_unwrap_or r []) others.2 in
    let byte : high.0 * 16 + low.0 ≡ pair.0 = ap (λ (r : Result ℕ FromHexError). result_unwrap_or r 0) low.2 in
    let one = digit_again a high.0 (value_read a i high.0 (hex_digit_value a) high.1) in
    let two = digit_again b low.0 (value_read b (i + 1) low.0 (hex_digit_value b) low.1) in
    let upper : pair.0 / 16 ≡ high.0 = omega (arith, byte, one.0, two.0) in
    let lower : pair.0 % 16 ≡ low.0 = omega (arith, byte, one.0, two.0) in
    rw (← e) (again_by _ _ _ _ _ _ (ap (λ v. eqb (slice_index lower_digits v) a) upper ∙ one.1)
    (ap (λ v. eqb (slice_index lower_digits v) b) lower ∙ two.1)
    (pairs_again (i + 2) rest others.0 others.1))

pub printed_again : (word bytes : List ℕ) → decode_of word ≡ Ok bytes →
    bytes_eq (encode_lower bytes) word ≡ not (list_any is_ascii_uppercase word)
printed_again word bytes h = at (eqb (length word % 2) 1) refl
  where
    at : (b : Bool) → eqb (length word % 2) 1 ≡ b →
        bytes_eq (encode_lower bytes) word ≡ not (list_any is_ascii_uppercase word)
    at true e = let bad : ◌≡◌ {A = Result (List ℕ) FromHexError} (Err OddLength) (Ok bytes) = rw e at h in cc bad
    at false e = pairs_again 0 word bytes (rw e at h)
