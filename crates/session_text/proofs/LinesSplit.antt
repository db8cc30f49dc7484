-- Bytes that words lack, and how a line falls into its words.
use Rattle.std.proofs.Common.{◌≡◌, ◌≢◌, ℕ, suc, ◌+◌, ◌^◌, ◌<◌, ◌≤◌, Bool, true, false, not, eqb, List, [], ◌∷◌, length, get_or, refl, ap, ◌∙◌, inl, inr, arith}
use Rattle.std.specs.List.{All, AllPass, list_all, slice_split, join_with_byte}
use Rattle.std.specs.Fmt.{decimal, signed_decimal}
use Rattle.std.specs.Int.{IsInRange}
use Rattle.std.proofs.lemmas.Bool.{and_parts}
use Rattle.std.proofs.lemmas.Bool.Decides.{eqb_tells}
use Rattle.std.proofs.lemmas.Fmt.{digits_decimal}
use Rattle.std.proofs.lemmas.List.Elements.{All-nil, All-cons, All-head, All-tail}
use Rattle.std.proofs.lemmas.List.Folds.{list_all-append}
use Rattle.std.proofs.lemmas.List.Splits.{slice_split_none, slice_split_at}
use Rattle.std.proofs.lemmas.Str.Parse.{not_in_digits}
use Rattle.hex.specs.Hex.{encode_lower, is_hex_digit, IsBytes}
use Rattle.hex.proofs.HexLemmas.{decode_of-encode_lower, decode_of-ok}
use lib.IntN.{ℤ, pos, negsuc}
use lib.Signed.{mag}
use Rattle.std.proofs.lemmas.List.{length-append}
use Rattle.session_text.specs.Words.{hex_word}
use Rattle.session_text.proofs.WrittenNumbers.{own}

-- the word has no such byte
abbrev pub lacks : ℕ → List ℕ → Bool
lacks b word = list_all (λ x. not (eqb x b)) word

abbrev pub AllLack : ℕ → List (List ℕ) → Type 0
AllLack b [] = Unit {0}
AllLack b (w ∷ ws) = (lacks b w ≡ true) × AllLack b ws

-- the byte is in no number and in no hex
pub record IsOutside (b : ℕ) : Type 0 where
  pub no_digit : ¬ (IsInRange 48 57 b)
  pub no_hex : is_hex_digit b ≡ false
  pub no_dash : eqb 45 b ≡ false

pub space : IsOutside 32
space = record { no_digit = λ h. omega arith; no_hex = refl; no_dash = refl }

pub zero : IsOutside 0
zero = record { no_digit = λ h. omega arith; no_hex = refl; no_dash = refl }

lacks_from : (b : ℕ) (w : List ℕ) → ((i : ℕ) → i < length w → get_or w i 0 ≢ b) → lacks b w ≡ true
lacks_from b [] h = refl
lacks_from b (x ∷ xs) h =
    let first : eqb x b ≡ false = elim (eqb_tells x b) [ inl p ↦ absurd (h 0 (omega arith) p.1) | inr p ↦ p.0 ] in
    let rest : lacks b xs ≡ true = lacks_from b xs (λ i lt. h (suc i) (omega arith)) in
    rw (first, rest) refl

pub decimal_lacks : (b : ℕ) → IsOutside b → (n : ℕ) → n < 2 ^ 64 → lacks b (decimal n) ≡ true
decimal_lacks b out n small =
    lacks_from b (decimal n) (λ i lt. not_in_digits own (decimal n) b (digits_decimal own n small) out.no_digit i lt)

pub signed_lacks : (b : ℕ) → IsOutside b → (z : ℤ) → mag z < 2 ^ 63 → lacks b (signed_decimal z) ≡ true
signed_lacks b out (pos n) small = decimal_lacks b out n (omega arith)
signed_lacks b out (negsuc n) small = let rest : lacks b (decimal (suc n)) ≡ true =
    decimal_lacks b out (suc n) (omega arith) in rw (out.no_dash, rest) refl

digits_lack : (b : ℕ) → is_hex_digit b ≡ false → (w : List ℕ) → AllPass is_hex_digit w → lacks b w ≡ true
digits_lack b never [] h = refl
digits_lack b never (x ∷ xs) h =
    let digit : is_hex_digit x ≡ true = All-head (λ x. is_hex_digit x ≡ true) x xs h in
    let first : eqb x b ≡ false =
    elim (eqb_tells x b) [ inl p ↦ absurd (let same = ap is_hex_digit p.1 in cc) | inr p ↦ p.0 ] in
    let rest : lacks b xs ≡ true = digits_lack b never xs (All-tail (λ x. is_hex_digit x ≡ true) x xs h) in
    rw (first, rest) refl

pub encoded_lacks : (b : ℕ) → IsOutside b → (t : List ℕ) → IsBytes t → lacks b (encode_lower t) ≡ true
encoded_lacks b out t h =
    digits_lack b out.no_hex (encode_lower t) (decode_of-ok (encode_lower t) t (decode_of-encode_lower t h)).1

pub hex_lacks : (b : ℕ) → IsOutside b → (t : List ℕ) → IsBytes t → lacks b (hex_word t) ≡ true
hex_lacks b out [] h = rw (out.no_dash) refl
hex_lacks b out (x ∷ bytes) h = encoded_lacks b out (x ∷ bytes) h

-- words without the byte, joined by another, are without it
pub join_lacks : (b : ℕ) (ws : List (List ℕ)) → eqb 32 b ≡ false → AllLack b ws → lacks b (join_with_byte 32 ws) ≡ true
join_lacks b [] other h = refl
join_lacks b (w ∷ []) other h = h.0
join_lacks b (w ∷ v ∷ ws) other h = rw (list_all-append, h.0, other, join_lacks b (v ∷ ws) other h.1) refl

pub lacks_all : (b : ℕ) (w : List ℕ) → lacks b w ≡ true → All (λ x. eqb x b ≡ false) w
lacks_all b [] h = All-nil (λ x. eqb x b ≡ false)
lacks_all b (x ∷ xs) h =
    let p = and_parts (not (eqb x b)) (lacks b xs) h in
    let first : eqb x b ≡ false =
    elim (eqb x b) as (λ v. not v ≡ true → v ≡ false) [ true ↦ λ e. cc | false ↦ λ e. refl ] p.0 in
    All-cons (λ x. eqb x b ≡ false) x xs first (lacks_all b xs p.1)

-- words that are joined by single spaces are found again
pub split_join : (w : List ℕ) (ws : List (List ℕ)) → lacks 32 w ≡ true → AllLack 32 ws →
    slice_split (λ b. eqb b 32) (join_with_byte 32 (w ∷ ws)) ≡ w ∷ ws
split_join w [] h hs = slice_split_none (λ b. eqb b 32) w (lacks_all 32 w h)
split_join w (v ∷ vs) h hs =
    slice_split_at (λ b. eqb b 32) w 32 (join_with_byte 32 (v ∷ vs)) (lacks_all 32 w h) refl
    ∙ ap (λ l. w ∷ l) (split_join v vs hs.0 hs.1)

-- the bytes of the words, with one more for each
abbrev pub total : List (List ℕ) → ℕ
total [] = 0
total (w ∷ ws) = length w + 1 + total ws

pub length-join : (ws : List (List ℕ)) → length (join_with_byte 32 ws) ≤ total ws
length-join [] = omega arith
length-join (w ∷ []) = omega arith
length-join (w ∷ v ∷ ws) = let rest =
    length-join (v ∷ ws) in omega (arith, rest, length-append w (32 ∷ join_with_byte 32 (v ∷ ws)))
