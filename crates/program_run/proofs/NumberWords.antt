-- The number that a word writes.
use Rattle.std.proofs.Common.{◌≡◌, ℕ, ◌^◌, ◌<◌, Bool, true, false, List, Some, None, Result, Ok, Err, if◌then◌else◌, sym, ap, ◌∙◌, subst, refl, arith}
use Rattle.std.specs.Fmt.{decimal}
use Rattle.std.specs.Str.{bytes_eq}
use Rattle.std.specs.Str.Parse.{ParsesUnsigned}
use Rattle.std.proofs.lemmas.Fmt.{parse-decimal}
use Rattle.std.proofs.lemmas.Slice.Eq.{bytes_eq-Decides}
use Rattle.session_text.specs.Words.{long_number_of}
use Rattle.session_text.proofs.LongNumbers.{long_complete, long_none}

-- a word that isn't read writes none
pub unread_word : {E : Type 0} (word : List ℕ) (r : Result ℕ E) (why : E) → ParsesUnsigned 64 10 word r → r ≡ Err why →
    long_number_of word ≡ None
unread_word {E} word r why parsed is =
    long_none word (λ n small e.
    let same : r ≡ Ok n = parse-decimal 64 n word r small small e parsed in
    let no = sym same ∙ is in cc)

-- nor does one that is read as a number, which is written otherwise
other_word : {E : Type 0} (word : List ℕ) (r : Result ℕ E) (n : ℕ) → ParsesUnsigned 64 10 word r → r ≡ Ok n →
    (decimal n ≡ word → ⊥) → long_number_of word ≡ None
other_word {E} word r n parsed is other =
    long_none word (λ m small e.
    let same : r ≡ Ok m = parse-decimal 64 m word r small small e parsed in
    let both : ◌≡◌ {A = Result ℕ E} (Ok m) (Ok n) = sym same ∙ is in
    let number : m ≡ n = cc in
    other (ap decimal (sym number) ∙ sym e))

written_word : (word : List ℕ) (n : ℕ) → n < 2 ^ 64 → decimal n ≡ word → long_number_of word ≡ Some n
written_word word n small e = ap long_number_of (sym e) ∙ long_complete n small

small_word : (E : Type 0) (word : List ℕ) (n : ℕ) → ParsesUnsigned {E = E} 64 10 word (Ok n) → n < 2 ^ 64
small_word E word n p =
    let small = p.0.1 in
    let is = p.1 in
    omega (arith, small, is)

-- a word that is read as a number writes it, if it is how the number is written
pub read_word : {E : Type 0} (word : List ℕ) (r : Result ℕ E) (n : ℕ) → ParsesUnsigned 64 10 word r → r ≡ Ok n →
    (if bytes_eq (decimal n) word then Some n else None) ≡ long_number_of word
read_word {E} word r n parsed is = by (bytes_eq (decimal n) word) refl
  where
    by : (b : Bool) → bytes_eq (decimal n) word ≡ b → (if b then Some n else None) ≡ long_number_of word
    by true e =
        sym (written_word word n (small_word E word n (subst (ParsesUnsigned 64 10 word) is parsed))
        ((bytes_eq-Decides (decimal n) word).0 e))
    by false e =
        sym (other_word word r n parsed is (λ same.
        let yes : bytes_eq (decimal n) word ≡ true = (bytes_eq-Decides (decimal n) word).1 same in
        let no = sym e ∙ yes in cc))
