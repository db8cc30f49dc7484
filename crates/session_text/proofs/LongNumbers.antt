-- A word of up to twenty digits reads as the number below 2 ^ 64 that it spells.
use Rattle.std.proofs.Common.{◌≡◌, ℕ, ◌+◌, ◌-◌, ◌*◌, ◌^◌, ◌<◌, ◌≤◌, Bool, true, false, ltb, List, [], ◌∷◌, ◌++◌, suc, length, take, drop, get_or, if◌then◌else◌, Some, None, refl, sym, ap, ◌∙◌, subst, arith}
use Rattle.std.specs.Str.Parse.{digits_value, AllDigits}
use Rattle.std.specs.Char.{digit_value}
use Rattle.std.specs.Fmt.{decimal}
use Rattle.std.proofs.Math.Seq.{drop-cons}
use Rattle.std.proofs.lemmas.Bool.{ltb-true, lt-ltb}
use Rattle.std.proofs.lemmas.List.{take-append-drop, drop_all}
use Rattle.std.proofs.lemmas.Fmt.{digits_value-decimal, decimal-digits_value, digits_decimal}
use Rattle.std.proofs.lemmas.Int.Digits.{digits_value_push}
use Rattle.session_text.specs.Words.{IsPlain, long_number_of, long_of}
use Rattle.session_text.proofs.WrittenNumbers.{own, printed_sound, printed_one, printed_none, decimal_plain}
use Rattle.session_text.proofs.DecimalDigits.{digits_behind}

long_back : (n : ℕ) → ltb n (2 ^ 64) ≡ true → digits_value 10 (decimal n) ≡ n
long_back n small = digits_value-decimal own n (ltb-true n (2 ^ 64) small)

pub long_sound : (word : List ℕ) (n : ℕ) → long_number_of word ≡ Some n → (n < 2 ^ 64) × (word ≡ decimal n)
unfolding long_number_of
long_sound word n e =
    let (small, text) = printed_sound (digits_value 10) (λ n. ltb n (2 ^ 64)) decimal word n e in
    (ltb-true n (2 ^ 64) small, text)

pub long_complete : (n : ℕ) → n < 2 ^ 64 → long_number_of (decimal n) ≡ Some n
unfolding long_number_of
long_complete n small =
    printed_one (digits_value 10) (λ n. ltb n (2 ^ 64)) decimal (decimal n) n long_back (lt-ltb n (2 ^ 64) small) refl

pub long_none : (word : List ℕ) → ((n : ℕ) → n < 2 ^ 64 → ¬ (word ≡ decimal n)) → long_number_of word ≡ None
unfolding long_number_of
long_none word none =
    printed_none (digits_value 10) (λ n. ltb n (2 ^ 64)) decimal word
    (λ n small is. none n (ltb-true n (2 ^ 64) small) is)

-- a word of another shape is no number
pub long_not_plain : (word : List ℕ) → ¬ (IsPlain 20 word) → long_number_of word ≡ None
long_not_plain word other =
    long_none word
    (λ n small is. other (subst (IsPlain 20) (sym is) (decimal_plain 20 n (omega arith) small (omega arith))))

not_all_digits : (word : List ℕ) → ¬ (AllDigits 10 word) → long_number_of word ≡ None
not_all_digits word other =
    long_none word (λ n small is. other (subst (AllDigits 10) (sym is) (digits_decimal own n small)))

-- ---- all digits but the last, and the last

digits_apart : (front : List ℕ) (c : ℕ) → AllDigits 10 (front ++ c ∷ []) → AllDigits 10 front × AllDigits 10 (c ∷ [])
digits_apart [] c h = (tt, h)
digits_apart (x ∷ xs) c h = let rest = digits_apart xs c h.1 in ((h.0, rest.0), rest.1)

-- a word is cut before its last byte
record IsCut (word front last : List ℕ) : Type 0 where
  c : ℕ
  one : last ≡ c ∷ []
  whole : word ≡ front ++ c ∷ []

cut_before : (word front last : List ℕ) → 1 ≤ length word → front ≡ take (length word - 1) word →
    last ≡ drop (length word - 1) word → IsCut word front last
cut_before word front last some before behind =
    let i = length word - 1 in
    let one : drop i word ≡ get_or word i 0 ∷ [] =
    drop-cons word i 0 (omega (arith, some))
    ∙ ap (λ l. get_or word i 0 ∷ l) (drop_all (suc i) word (omega (arith, some))) in
    record {
      c = get_or word i 0;
      one = behind ∙ one;
      whole = sym (take-append-drop i word) ∙ ap (λ l. take i word ++ l) one
          ∙ ap (λ l. l ++ get_or word i 0 ∷ []) (sym before);
    }

pub long_not_front : (word front last : List ℕ) → 1 ≤ length word → front ≡ take (length word - 1) word →
    last ≡ drop (length word - 1) word
    → ¬ (AllDigits 10 front) → long_number_of word ≡ None
long_not_front word front last some before behind other =
    let cut = cut_before word front last some before behind in
    not_all_digits word (λ all. other (digits_apart front cut.c (subst (AllDigits 10) cut.whole all)).0)

pub long_not_last : (word front last : List ℕ) → 1 ≤ length word → front ≡ take (length word - 1) word →
    last ≡ drop (length word - 1) word
    → ¬ (AllDigits 10 last) → long_number_of word ≡ None
long_not_last word front last some before behind other =
    let cut = cut_before word front last some before behind in
    not_all_digits word
    (λ all. other
    (subst (AllDigits 10) (sym cut.one) (digits_apart front cut.c (subst (AllDigits 10) cut.whole all)).1))

-- the number by its digits

long_at : (word : List ℕ) (n : ℕ) (b : Bool) → ltb n (2 ^ 64) ≡ b → IsPlain 20 word → AllDigits 10 word →
    digits_value 10 word ≡ n → long_number_of word ≡ (if b then Some n else None)
long_at word n true small p all is =
    let lt = ltb-true n (2 ^ 64) small in
    let text : decimal (digits_value 10 word) ≡ word =
    decimal-digits_value own word all p.0 p.2 (omega (arith, is, lt)) in
    ap long_number_of (sym text ∙ ap decimal is) ∙ long_complete n lt
long_at word n false late p all is = long_none word (λ m small same.
    let back : digits_value 10 word ≡ m = ap (digits_value 10) same ∙ digits_value-decimal own m small in
    let lt : ltb n (2 ^ 64) ≡ true = lt-ltb n (2 ^ 64) (omega (arith, is, back, small)) in cc)

pub long_is : (word front last : List ℕ) (tens ones : ℕ) → IsPlain 20 word → front ≡ take (length word - 1) word →
    last ≡ drop (length word - 1) word
    → AllDigits 10 front → AllDigits 10 last → tens ≡ digits_value 10 front → ones ≡ digits_value 10 last
    → long_number_of word ≡ long_of (10 * tens + ones)
long_is word front last tens ones p before behind digits digit tens_are ones_are =
    let cut = cut_before word front last p.0 before behind in
    let last_digit : AllDigits 10 (cut.c ∷ []) = subst (AllDigits 10) cut.one digit in
    let all : AllDigits 10 word =
    subst (AllDigits 10) (sym cut.whole) (digits_behind front cut.c digits last_digit.0) in
    let value : digits_value 10 word ≡ digits_value 10 front * 10 + digit_value cut.c =
    ap (digits_value 10) cut.whole ∙ digits_value_push 10 front cut.c in
    let one : digits_value 10 last ≡ digits_value 10 [] * 10 + digit_value cut.c =
    ap (digits_value 10) cut.one ∙ digits_value_push 10 [] cut.c in
    let none : digits_value 10 [] ≡ 0 = refl in
    let n = 10 * tens + ones in
    long_at word n (ltb n (2 ^ 64)) refl p all (omega (arith, value, one, none, tens_are, ones_are))
