-- Pairs of digits in lower case, and the bytes that they spell.
use Rattle.std.proofs.Common.{◌≡◌, ℕ, ◌+◌, ◌-◌, ◌*◌, ◌/◌, ◌%◌, ◌<◌, ◌≤◌, Bool, true, false, ◌&&◌, List, [], ◌∷◌, ◌++◌, length, take, get_or, set, refl, sym, ap, ◌∙◌, subst, arith, append_assoc, inl, inr}
use Rattle.std.specs.Prelude.{slice_index, nat_le, if◌then◌else◌}
use Rattle.std.proofs.lemmas.Bool.{and_parts, leb-true}
use Rattle.std.proofs.lemmas.Bool.Decides.{eqb_tells}
use Rattle.std.proofs.lemmas.List.{take_more, take_more_set, get_or-set_other}
use Rattle.std.proofs.lemmas.Grind.{get_or-set_at}
use Rattle.hex.specs.Hex.{lower_digits, encode_lower, encode_with}
use Rattle.wl_wire.specs.Texts.{IsBytes}
use Rattle.session_text.specs.Words.{value_of}
use Rattle.session_text.proofs.LowerHex.{low_digit, letter_digit}

-- a digit has a value below 16, and is printed of it
pub record IsDigit (c : ℕ) : Type 0 where
  pub small : value_of c < 16
  pub same : slice_index lower_digits (value_of c) ≡ c

pub digit_is : (c : ℕ) → value_of c < 256 → IsDigit c
digit_is c = by (nat_le 48 c && nat_le c 57) (nat_le 97 c && nat_le c 102) refl refl
  where
    by : (n m : Bool) → (nat_le 48 c && nat_le c 57) ≡ n → (nat_le 97 c && nat_le c 102) ≡ m → value_of c < 256 →
        IsDigit c
    by true m a b l =
        let is : value_of c ≡ c - 48 =
        ap (λ (t : Bool). (if t then c - 48 else (if nat_le 97 c && nat_le c 102 then c - 87 else 256))) a in
        let (low, high) = and_parts (nat_le 48 c) (nat_le c 57) a in
        let low : 48 ≤ c = leb-true 48 c low in
        let high : c ≤ 57 = leb-true c 57 high in
        record {
          small = omega arith;
          same = ap (slice_index lower_digits) is ∙ low_digit (c - 48) (omega arith)
              ∙ omega arith;
        }
    by false true a b l =
        let is : value_of c ≡ c - 87 =
        ap (λ (t : Bool). (if t then c - 48 else (if nat_le 97 c && nat_le c 102 then c - 87 else 256))) a
        ∙ ap (λ (t : Bool). (if t then c - 87 else 256)) b in
        let (low, high) = and_parts (nat_le 97 c) (nat_le c 102) b in
        let low : 97 ≤ c = leb-true 97 c low in
        let high : c ≤ 102 = leb-true c 102 high in
        let ten : 10 + (c - 97) ≡ value_of c = omega arith in
        record {
          small = omega arith;
          same = ap (slice_index lower_digits) (sym ten)
              ∙ letter_digit (c - 97) (omega arith) ∙ omega arith;
        }
    by false false a b l =
        let is : value_of c ≡ 256 =
        ap (λ (t : Bool). (if t then c - 48 else (if nat_le 97 c && nat_le c 102 then c - 87 else 256))) a
        ∙ ap (λ (t : Bool). (if t then c - 87 else 256)) b in
        absurd (omega arith)

-- the two digits of a byte

encode_more : (t xs : List ℕ) (b : ℕ) →
    encode_with t (xs ++ b ∷ []) ≡ encode_with t xs ++ slice_index t (b / 16) ∷ slice_index t (b % 16) ∷ []
unfolding encode_with
encode_more t [] b = refl
encode_more t (x ∷ xs) b =
    ap (λ l. slice_index t (x / 16) ∷ slice_index t (x % 16) ∷ l) (encode_more t xs b)

pair_is : (c d v : ℕ) → v ≡ 16 * value_of c + value_of d → v < 256 →
    (slice_index lower_digits (v / 16) ≡ c) × (slice_index lower_digits (v % 16) ≡ d)
pair_is c d v is small =
    let one : IsDigit c = digit_is c (omega arith) in
    let two : IsDigit d = digit_is d (omega arith) in
    let high : v / 16 ≡ value_of c = omega (arith, is, one.small, two.small) in
    let low : v % 16 ≡ value_of d = omega (arith, is, one.small, two.small) in
    (ap (slice_index lower_digits) high ∙ one.same, ap (slice_index lower_digits) low ∙ two.same)

take_two : (word : List ℕ) (n : ℕ) → n + 1 < length word →
    take (n + 2) word ≡ take n word ++ get_or word n 0 ∷ get_or word (n + 1) 0 ∷ []
take_two word n l =
    let e : n + 2 ≡ (n + 1) + 1 = omega arith in
    ap (λ k. take k word) e ∙ take_more word (n + 1) 0 l
    ∙ ap (λ w. w ++ get_or word (n + 1) 0 ∷ []) (take_more word n 0 (omega arith))
    ∙ append_assoc (take n word) (get_or word n 0 ∷ []) (get_or word (n + 1) 0 ∷ [])

-- a byte more among bytes
pub bytes_set : (bytes : List ℕ) (at v : ℕ) → at < length bytes → v < 256 → IsBytes bytes → IsBytes (set bytes at v)
bytes_set bytes at v l small all i =
    elim (eqb_tells i at) [
      | inl p ↦ let here = get_or-set_at bytes at i v 0 (p.1) l in omega arith
      | inr p ↦ subst (λ b. b < 256) (sym (get_or-set_other bytes at i v 0 (p.1))) (all i)
    ]

-- one more pair is read
pub read_more : (word bytes : List ℕ) (at v : ℕ) → length word ≡ 2 * length bytes → at < length bytes →
    v ≡ 16 * value_of (get_or word (2 * at) 0) + value_of (get_or word (2 * at + 1) 0) → v < 256 →
    take (2 * at) word ≡ encode_lower (take at bytes) →
    take (2 * (at + 1)) word ≡ encode_lower (take (at + 1) (set bytes at v))
read_more word bytes at v long l is small e =
    let p = pair_is (get_or word (2 * at) 0) (get_or word (2 * at + 1) 0) v is small in
    let two : 2 * (at + 1) ≡ 2 * at + 2 = omega arith in
    ap (λ n. take n word) two ∙ take_two word (2 * at) (omega arith)
    ∙ ap (λ w. w ++ get_or word (2 * at) 0 ∷ get_or word (2 * at + 1) 0 ∷ []) e
    ∙ sym (ap encode_lower (take_more_set bytes at v l) ∙ encode_more lower_digits (take at bytes) v
    ∙ ap (λ x. encode_lower (take at bytes) ++ x ∷ slice_index lower_digits (v % 16) ∷ []) (p.0)
    ∙ ap (λ x. encode_lower (take at bytes) ++ get_or word (2 * at) 0 ∷ x ∷ []) (p.1))
