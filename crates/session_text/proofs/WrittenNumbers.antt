-- A word reads as the number that it spells, and as no other.
use Rattle.std.proofs.Common.{◌≡◌, ℕ, ◌^◌, ◌<◌, Bool, true, false, cond, eqb, ltb, ◌&&◌, List, [], ◌∷◌, zero, suc, ◌≤◌, length, drop, get_or, if◌then◌else◌, Option, Some, None, sym, refl, ap, ◌∙◌, subst, inl, inr, arith}
use Rattle.std.specs.Str.{bytes_eq}
use Rattle.std.specs.Str.Parse.{digits_value, signed_digits_value, AllDigits}
use Rattle.std.specs.Fmt.{decimal, signed_decimal}
use Rattle.std.specs.Int.{IsInRange}
use Rattle.std.proofs.lemmas.Bool.{and_parts, ltb-true, lt-ltb}
use Rattle.std.proofs.lemmas.Bool.Decides.{eqb_tells}
use Rattle.std.proofs.lemmas.Fmt.{digits_value-decimal, decimal-digits_value, digits_decimal, decimal_nonempty, decimal_digit, first_decimal, length-decimal-le}
use Rattle.std.proofs.lemmas.Int.{ints}
use Rattle.std.proofs.lemmas.Option.{cond_some}
use Rattle.std.proofs.lemmas.Slice.Eq.{bytes_eq-Decides}
use Rattle.std.proofs.lemmas.Str.Parse.{IsNumeralModel, numerals_by_value, tells_digits, not_in_digits, digits_value_short}
use lib.IntN.{ℤ, pos, negsuc, neg_ℤ}
use lib.Signed.{mag}
use mir.Syntax.{w32}
use mir.Val.{SFits}
use Rattle.session_text.specs.Words.{IsPlain, printed, number_of, signed_of, fits_i32, unsigned_of, positive_of, negative_of}

pub own : IsNumeralModel (AllDigits 10) (digits_value 10)
own = numerals_by_value (AllDigits 10) tells_digits

-- ---- what is printed and read back

pub printed_sound : {X : Type 0} (value : List ℕ → X) (test : X → Bool) (print : X → List ℕ) (word : List ℕ) (x : X)
    → printed value test print word ≡ Some x → (test x ≡ true) × (word ≡ print x)
printed_sound value test print word x e =
    let v = value word in
    let (both, same) = cond_some (test v && bytes_eq (print v) word) v x e in
    let (passes, text) = and_parts (test v) (bytes_eq (print v) word) both in
    (ap test (sym same) ∙ passes, sym ((bytes_eq-Decides (print v) word).0 text) ∙ ap print same)

pub printed_one : {X : Type 0} (value : List ℕ → X) (test : X → Bool) (print : X → List ℕ) (word : List ℕ) (x : X)
    → ((y : X) → test y ≡ true → value (print y) ≡ y) → test x ≡ true → word ≡ print x →
    printed value test print word ≡ Some x
printed_one {X} value test print word x back passes text =
    let same : bytes_eq (print x) word ≡ true = (bytes_eq-Decides (print x) word).1 (sym text) in
    let is : value word ≡ x = ap value text ∙ back x passes in
    subst (λ y. ◌≡◌ {A = Option X} (cond (test y && bytes_eq (print y) word) (Some y) None) (Some x)) (sym is)
    (rw (passes, same) refl)

-- where the word is no print there is no value
pub printed_none : {X : Type 0} (value : List ℕ → X) (test : X → Bool) (print : X → List ℕ) (word : List ℕ)
    → ((x : X) → test x ≡ true → word ≡ print x → ⊥) → printed value test print word ≡ None
printed_none value test print word none =
    elim (printed value test print word) as (λ o. printed value test print word ≡ o → o ≡ None) [
      | None ↦ λ e. refl
      | Some x ↦ λ e. absurd (let p = printed_sound value test print word x e in none x p.0 p.1)
    ] refl

-- where the parse of each print gives its value, a parse that fails says that there is none

-- and so does one whose value is printed otherwise

-- ---- numbers below 2 ^ 32

number_back : (n : ℕ) → ltb n (2 ^ 32) ≡ true → digits_value 10 (decimal n) ≡ n
number_back n small = let lt : n < 2 ^ 32 = ltb-true n (2 ^ 32) small in digits_value-decimal own n (omega arith)

pub number_sound : (word : List ℕ) (n : ℕ) → number_of word ≡ Some n → (n < 2 ^ 32) × (word ≡ decimal n)
unfolding number_of
number_sound word n e =
    let (small, text) = printed_sound (digits_value 10) (λ n. ltb n (2 ^ 32)) decimal word n e in
    (ltb-true n (2 ^ 32) small, text)

pub number_complete : (n : ℕ) → n < 2 ^ 32 → number_of (decimal n) ≡ Some n
unfolding number_of
number_complete n small =
    printed_one (digits_value 10) (λ n. ltb n (2 ^ 32)) decimal (decimal n) n number_back (lt-ltb n (2 ^ 32) small) refl

-- ---- numbers of 32 bits with a sign

SFits_fits_i32 : (z : ℤ) → SFits w32 z → fits_i32 z ≡ true
SFits_fits_i32 (pos n) e = let lt : n < 2 ^ 31 = omega (arith, ints) in lt-ltb n (2 ^ 31) lt
SFits_fits_i32 (negsuc n) e = let lt : n < 2 ^ 31 = omega (arith, ints) in lt-ltb n (2 ^ 31) lt

pub mag_i32 : (z : ℤ) → fits_i32 z ≡ true → mag z < 2 ^ 31
mag_i32 (pos n) e = let lt : n < 2 ^ 31 = ltb-true n (2 ^ 31) e in omega arith
mag_i32 (negsuc n) e = let lt : n < 2 ^ 31 = ltb-true n (2 ^ 31) e in omega arith

first_is_digit : (n c : ℕ) → n < 2 ^ 64 → ¬ (IsInRange 48 57 c) → eqb (get_or (decimal n) 0 0) c ≡ false
first_is_digit n c small out =
    let other = not_in_digits own (decimal n) c (digits_decimal own n small) out 0 (decimal_nonempty n small) in
    elim (eqb_tells (get_or (decimal n) 0 0) c) [ inl p ↦ absurd (other p.1) | inr p ↦ p.0 ]

signed_back : (z : ℤ) → fits_i32 z ≡ true → signed_digits_value 10 (signed_decimal z) ≡ z
signed_back (pos n) e =
    let lt : n < 2 ^ 31 = ltb-true n (2 ^ 31) e in
    let minus : eqb (get_or (decimal n) 0 0) 45 ≡ false = first_is_digit n 45 (omega arith) (λ h. omega arith) in
    let plus : eqb (get_or (decimal n) 0 0) 43 ≡ false = first_is_digit n 43 (omega arith) (λ h. omega arith) in
    rw (minus, plus) (ap pos (digits_value-decimal own n (omega arith)))
signed_back (negsuc n) e =
    let lt : n < 2 ^ 31 = ltb-true n (2 ^ 31) e in
    ap (λ k. neg_ℤ (pos k)) (digits_value-decimal own (suc n) (omega arith))

pub signed_sound : (word : List ℕ) (z : ℤ) → signed_of word ≡ Some z → (fits_i32 z ≡ true) × (word ≡ signed_decimal z)
unfolding signed_of
signed_sound word z e = printed_sound (signed_digits_value 10) fits_i32 signed_decimal word z e

pub signed_complete : (z : ℤ) → fits_i32 z ≡ true → signed_of (signed_decimal z) ≡ Some z
unfolding signed_of
signed_complete z fits =
    printed_one (signed_digits_value 10) fits_i32 signed_decimal (signed_decimal z) z signed_back fits refl

-- ---- a word of digits reads as their number

plain_is : (word : List ℕ) → IsPlain 10 word → AllDigits 10 word → decimal (digits_value 10 word) ≡ word
plain_is word p all =
    decimal-digits_value own word all p.0 p.2
    (let small = digits_value_short own word 10 all p.1 in omega (arith, small))

pub plain_value : (word : List ℕ) (n : ℕ) → IsPlain 10 word → AllDigits 10 word → n ≡ digits_value 10 word →
    word ≡ decimal n
plain_value word n p all is = sym (ap decimal is ∙ plain_is word p all)

pub plain_small : (word : List ℕ) (n : ℕ) → IsPlain 10 word → AllDigits 10 word → n ≡ digits_value 10 word → n < 10 ^ 10
plain_small word n p all is = subst (λ k. k < 10 ^ 10) (sym is) (digits_value_short own word 10 all p.1)

pub decimal_plain : (most n : ℕ) → 1 ≤ most → n < 2 ^ 64 → n < 10 ^ most → IsPlain most (decimal n)
decimal_plain most zero some small fits = let one : length (decimal 0) ≡ 1 =
    ap length (decimal_digit 0 (omega arith)) in (omega (arith, one), omega (arith, one), λ e. one)
decimal_plain most (suc n) some small fits =
    let first = first_decimal (suc n) (omega arith) small in (
      decimal_nonempty (suc n) small,
      length-decimal-le most (suc n) some fits small,
      λ e. absurd (omega (arith, first, e)),
    )

pub not_plain : (word : List ℕ) → ¬ (IsPlain 10 word) → (n : ℕ) → n < 2 ^ 32 → ¬ (word ≡ decimal n)
not_plain word other n small is =
    other (subst (IsPlain 10) (sym is) (decimal_plain 10 n (omega arith) (omega arith) (omega arith)))

pub not_digits : (word : List ℕ) → ¬ (AllDigits 10 word) → (n : ℕ) → n < 2 ^ 32 → ¬ (word ≡ decimal n)
not_digits word other n small is = other (subst (AllDigits 10) (sym is) (digits_decimal own n (omega arith)))

-- without a sign

pub number_none : (word : List ℕ) → ((n : ℕ) → n < 2 ^ 32 → ¬ (word ≡ decimal n)) → number_of word ≡ None
unfolding number_of
number_none word none =
    printed_none (digits_value 10) (λ n. ltb n (2 ^ 32)) decimal word
    (λ n small is. none n (ltb-true n (2 ^ 32) small) is)

-- a number that is printed so is the only one
one_decimal : (m n : ℕ) → m < 2 ^ 64 → n < 2 ^ 64 → decimal m ≡ decimal n → m ≡ n
one_decimal m n m-lt n-lt e =
    sym (digits_value-decimal own m m-lt) ∙ ap (digits_value 10) e ∙ digits_value-decimal own n n-lt

number_at : (n : ℕ) (b : Bool) → ltb n (2 ^ 32) ≡ b → n < 10 ^ 10 → number_of (decimal n) ≡ (if b then Some n else None)
number_at n true small many = number_complete n (ltb-true n (2 ^ 32) small)
number_at n false late many = number_none (decimal n) (λ m m-lt e.
    let same : n ≡ m = one_decimal n m (omega arith) (omega arith) e in
    let small : ltb n (2 ^ 32) ≡ true = lt-ltb n (2 ^ 32) (omega (arith, same)) in cc)

pub number_is : (word : List ℕ) (n : ℕ) → n < 10 ^ 10 → word ≡ decimal n → number_of word ≡ unsigned_of n
number_is word n many is = ap number_of is ∙ number_at n (ltb n (2 ^ 32)) refl many

-- with a sign

no_sign : (n : ℕ) → n < 2 ^ 64 → ¬ (get_or (decimal n) 0 0 ≡ 45)
no_sign n small e = let other =
    first_is_digit n 45 small (λ h. omega arith) in let same : eqb (get_or (decimal n) 0 0) 45 ≡ true = rw e refl in cc

pub signed_none : (word : List ℕ) → ¬ (get_or word 0 0 ≡ 45) → ((n : ℕ) → n < 2 ^ 31 → ¬ (word ≡ decimal n)) →
    signed_of word ≡ None
unfolding signed_of
signed_none word plain none = printed_none (signed_digits_value 10) fits_i32 signed_decimal word at
  where
    at : (z : ℤ) → fits_i32 z ≡ true → word ≡ signed_decimal z → ⊥
    at (pos n) fits is = none n (ltb-true n (2 ^ 31) fits) is
    at (negsuc n) fits is = plain (ap (λ w. get_or w 0 0) is)

-- behind a minus

minus_behind : (word : List ℕ) → get_or word 0 0 ≡ 45 → word ≡ 45 ∷ drop 1 word
minus_behind [] e = absurd (omega (arith, e))
minus_behind (x ∷ xs) e = ap (λ c. c ∷ xs) e

negative_late : (word : List ℕ) → get_or word 0 0 ≡ 45 → ((n : ℕ) → n < 2 ^ 31 → ¬ (drop 1 word ≡ decimal (suc n))) →
    signed_of word ≡ None
unfolding signed_of
negative_late word minus none = printed_none (signed_digits_value 10) fits_i32 signed_decimal word at
  where
    at : (z : ℤ) → fits_i32 z ≡ true → word ≡ signed_decimal z → ⊥
    at (pos n) fits is = let lt =
        ltb-true n (2 ^ 31) fits in no_sign n (omega (arith, lt)) (sym (ap (λ w. get_or w 0 0) is) ∙ minus)
    at (negsuc n) fits is = none n (ltb-true n (2 ^ 31) fits) (ap (drop 1) is)

pub negative_none : (word : List ℕ) → get_or word 0 0 ≡ 45 → ((n : ℕ) → n < 2 ^ 32 → ¬ (drop 1 word ≡ decimal n)) →
    signed_of word ≡ None
negative_none word minus none = negative_late word minus (λ n lt. none (suc n) (omega arith))

-- numbers with a sign, by the digits

signed_at : (n : ℕ) (b : Bool) → ltb n (2 ^ 31) ≡ b → n < 10 ^ 10 →
    signed_of (decimal n) ≡ (if b then Some (pos n) else None)
signed_at n true small many = signed_complete (pos n) small
signed_at n false late many = signed_none (decimal n) (no_sign n (omega arith)) (λ m m-lt e.
    let same : n ≡ m = one_decimal n m (omega arith) (omega arith) e in
    let small : ltb n (2 ^ 31) ≡ true = lt-ltb n (2 ^ 31) (omega (arith, same)) in cc)

pub signed_is : (word : List ℕ) (n : ℕ) → n < 10 ^ 10 → word ≡ decimal n → signed_of word ≡ positive_of n
signed_is word n many is = ap signed_of is ∙ signed_at n (ltb n (2 ^ 31)) refl many

negative_at : (n : ℕ) (b : Bool) → ltb n (2 ^ 31) ≡ b → suc n < 10 ^ 10 →
    signed_of (45 ∷ decimal (suc n)) ≡ (if b then Some (negsuc n) else None)
negative_at n true small many = signed_complete (negsuc n) small
negative_at n false late many = negative_late (45 ∷ decimal (suc n)) refl (λ m m-lt e.
    let same : suc n ≡ suc m = one_decimal (suc n) (suc m) (omega arith) (omega arith) e in
    let small : ltb n (2 ^ 31) ≡ true = lt-ltb n (2 ^ 31) (omega (arith, same)) in cc)

negative_of_digits : (n : ℕ) → n < 10 ^ 10 → signed_of (45 ∷ decimal n) ≡ negative_of n
negative_of_digits zero many = negative_late (45 ∷ decimal 0) refl (λ m m-lt e.
    let same : 0 ≡ suc m = one_decimal 0 (suc m) (omega arith) (omega arith) e in omega (arith, same))
negative_of_digits (suc n) many = negative_at n (ltb n (2 ^ 31)) refl many

pub negative_is : (word : List ℕ) (n : ℕ) → n < 10 ^ 10 → get_or word 0 0 ≡ 45 → drop 1 word ≡ decimal n →
    signed_of word ≡ negative_of n
negative_is word n many minus is =
    ap signed_of (minus_behind word minus ∙ ap (λ w. 45 ∷ w) is) ∙ negative_of_digits n many
