-- A line that is made from its end to its beginning: what stands so far is plain, and is the words' text.
use Rattle.std.proofs.Common.{◌≡◌, ℕ, suc, ◌^◌, ◌+◌, ◌-◌, ◌<◌, ◌≤◌, true, List, [], ◌∷◌, ◌++◌, length, get_or, slice_set, map, refl, sym, ap, ◌∙◌, arith}
use Rattle.std.specs.Prelude.{drop}
use Rattle.std.specs.List.{join_with_byte, list_all}
use Rattle.std.specs.Char.{is_ascii}
use Rattle.std.specs.Str.{IsAscii}
use Rattle.std.specs.Fmt.{decimal}
use Rattle.std.proofs.lemmas.Fmt.{IsAscii-decimal, length-decimal-le}
use Rattle.std.proofs.lemmas.List.{append_assoc, append-nil, drop_more, drop-set}
use Rattle.std.proofs.lemmas.List.Folds.{list_all-append}
use Rattle.std.proofs.lemmas.Bool.{and_parts, ltb-true, lt-ltb}
use Rattle.std.proofs.lemmas.Str.Ascii.{IsAscii-nil, IsAscii-cons}
use Rattle.hex.specs.Hex.{encode_lower, lower_digits}
use Rattle.hex.proofs.HexLemmas.{IsAscii-encode_with}
use Rattle.wl_wire.specs.Texts.{has_no_zero, IsBytes}
use Rattle.session_text.specs.Words.{hex_word}
use Rattle.lines_transcript.specs.Told.{spaced}
use Rattle.session_text.proofs.LinesSplit.{zero, hex_lacks}
use Rattle.lines_transcript.proofs.PrintedLines.{number_clean, join-spaced}

pub number_short : (n : ℕ) → n < 2 ^ 32 → length (decimal n) ≤ 10
number_short n small = length-decimal-le 10 n (omega arith) (omega arith) (omega arith)

-- ASCII, as a test
pub ascii_is : (bytes : List ℕ) → list_all is_ascii bytes ≡ true → IsAscii bytes
ascii_is [] h = IsAscii-nil
ascii_is (b ∷ bytes) h =
    let p = and_parts (is_ascii b) (list_all is_ascii bytes) h in
    let small = ltb-true b 128 p.0 in
    IsAscii-cons b bytes (omega (arith, small)) (ascii_is bytes p.1)

ascii_from : (bytes : List ℕ) → IsAscii bytes → list_all is_ascii bytes ≡ true
ascii_from [] h = refl
ascii_from (b ∷ bytes) h = rw (lt-ltb b 128 (h 0), ascii_from bytes (λ i. h (suc i))) refl

-- ASCII, and without a zero byte
pub record IsPlain (bytes : List ℕ) : Type 0 where
  pub ascii : list_all is_ascii bytes ≡ true
  pub clean : has_no_zero bytes ≡ true

pub before_plain : (word rest : List ℕ) → IsPlain word → IsPlain rest → IsPlain (word ++ rest)
before_plain word rest w r = record {
  ascii = rw (list_all-append, w.ascii, r.ascii) refl;
  clean = rw (list_all-append, w.clean, r.clean) refl;
}

pub word_plain : (word rest : List ℕ) → IsPlain word → IsPlain rest → IsPlain (32 ∷ (word ++ rest))
word_plain word rest w r = let both =
    before_plain word rest w r in record { ascii = rw (both.ascii) refl; clean = rw (both.clean) refl }

pub number_is_plain : (n : ℕ) → n < 2 ^ 32 → IsPlain (decimal n)
number_is_plain n small =
    record { ascii = ascii_from (decimal n) (IsAscii-decimal n (omega arith)); clean = number_clean n small }

table_ascii : IsAscii lower_digits
table_ascii = ascii_is lower_digits refl

pub hex_plain : (bytes : List ℕ) → 1 ≤ length bytes → IsBytes bytes → IsPlain (hex_word bytes)
hex_plain [] some h = absurd (omega (arith, some))
hex_plain (b ∷ bytes) some h = record {
  ascii = ascii_from (encode_lower (b ∷ bytes)) (IsAscii-encode_with lower_digits (b ∷ bytes) table_ascii);
  clean = hex_lacks 0 zero (b ∷ bytes) h;
}

pub none_plain : IsPlain []
none_plain = record { ascii = refl; clean = refl }

-- a space before what stands
pub spaced_set : (at : ℕ) (room rest : List ℕ) → 1 ≤ at → at ≤ length room → drop at room ≡ rest →
    drop (at - 1) (slice_set room (at - 1) 32) ≡ 32 ∷ rest
spaced_set at room rest some within stands =
    let on : at - 1 + 1 ≡ at = omega arith in
    drop-set room (at - 1) 32 (omega arith) ∙ ap (λ i. 32 ∷ drop i room) on ∙ ap (λ l. 32 ∷ l) stands

-- one more number before those that stand
pub numbers_more : (ns : List ℕ) (i : ℕ) (rest before after : List ℕ) → i < length ns
    → before ≡ spaced (map decimal (drop (i + 1) ns)) ++ rest → after ≡ 32 ∷ (decimal (get_or ns i 0) ++ before) →
    after ≡ spaced (map decimal (drop i ns)) ++ rest
numbers_more ns i rest before after lt held added =
    let word = decimal (get_or ns i 0) in
    added ∙ ap (λ l. 32 ∷ (word ++ l)) held
    ∙ ap (λ l. 32 ∷ l) (sym (append_assoc word (spaced (map decimal (drop (i + 1) ns))) rest))
    ∙ ap (λ l. spaced (map decimal l) ++ rest) (sym (drop_more ns i 0 lt))

-- a first word, another, and more behind them
pub two_joined : (first word : List ℕ) (words : List (List ℕ)) (behind all line : List ℕ)
    → behind ≡ spaced words ++ [] → all ≡ 32 ∷ (word ++ behind) → line ≡ first ++ all →
    line ≡ join_with_byte 32 (first ∷ word ∷ words)
two_joined first word words behind all line b a l =
    l ∙ ap (λ x. first ++ x) (a ∙ ap (λ x. 32 ∷ (word ++ x)) (b ∙ append-nil (spaced words)))
    ∙ sym (join-spaced first (word ∷ words))

pub three_joined : (first second word : List ℕ) (words : List (List ℕ)) (behind more all line : List ℕ)
    → behind ≡ spaced words ++ [] → more ≡ 32 ∷ (word ++ behind) → all ≡ 32 ∷ (second ++ more) → line ≡ first ++ all
    → line ≡ join_with_byte 32 (first ∷ second ∷ word ∷ words)
three_joined first second word words behind more all line b m a l =
    l ∙ ap (λ x. first ++ x)
    (a ∙ ap (λ x. 32 ∷ (second ++ x)) (m ∙ ap (λ x. 32 ∷ (word ++ x)) (b ∙ append-nil (spaced words))))
    ∙ sym (join-spaced first (second ∷ word ∷ words))
