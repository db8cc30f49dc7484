-- A line that is printed has no zero byte.
use Rattle.std.proofs.Common.{◌≡◌, ℕ, ◌^◌, ◌<◌, true, List, [], ◌∷◌, ◌++◌, ◌+◌, length, get_or, map, refl, sym, ap, ◌∙◌, arith}
use Rattle.std.specs.Prelude.{take}
use Rattle.std.specs.List.{join_with_byte}
use Rattle.std.specs.Fmt.{decimal, signed_decimal}
use Rattle.std.proofs.Common.{String}
use Rattle.std.specs.String.{string_bytes}
use Rattle.std.proofs.lemmas.Int.{ints}
use Rattle.std.proofs.lemmas.Str.{IsUtf8-string_bytes, is_utf8-from_IsUtf8}
use lib.IntN.{ℤ, pos, negsuc}
use mir.Syntax.{w64}
use mir.Val.{SFits}
use Rattle.wl_wire.specs.Texts.{has_no_zero, is_text}
use Rattle.std.proofs.lemmas.List.Folds.{list_all-append}
use Rattle.std.proofs.lemmas.List.{append_assoc, append-nil, map-append, take_more}
use Rattle.lines_transcript.specs.Told.{spaced}
use Rattle.session_text.proofs.LinesSplit.{lacks, zero, decimal_lacks, signed_lacks, join_lacks}

-- what a string has is a text where it has no zero byte
pub is_text-string_bytes : {Z : Type 0} (s : String Z) → has_no_zero (string_bytes s) ≡ true →
    is_text (string_bytes s) ≡ true
is_text-string_bytes s h = rw (h, is_utf8-from_IsUtf8 (string_bytes s) (IsUtf8-string_bytes s)) refl

pub number_clean : (n : ℕ) → n < 2 ^ 32 → lacks 0 (decimal n) ≡ true
number_clean n small = decimal_lacks 0 zero n (omega arith)

pub signed_clean : (z : ℤ) → SFits w64 z → lacks 0 (signed_decimal z) ≡ true
signed_clean (pos n) h = signed_lacks 0 zero (pos n) (omega (arith, ints))
signed_clean (negsuc n) h = signed_lacks 0 zero (negsuc n) (omega (arith, ints))

-- an act's number and a label have no zero byte
pub front_clean : (number to : ℕ) → number < 2 ^ 32 → to < 2 ^ 32 →
    has_no_zero (join_with_byte 32 (decimal number ∷ decimal to ∷ [])) ≡ true
front_clean number to number_small to_small =
    join_lacks 0 (decimal number ∷ decimal to ∷ []) refl
    (number_clean number number_small, (number_clean to to_small, tt))

pub word_clean : (before word : List ℕ) → has_no_zero before ≡ true → has_no_zero word ≡ true →
    has_no_zero (before ++ 32 ∷ word) ≡ true
word_clean before word h i = rw (list_all-append, h, i) refl

-- ---- words that are added one after the other

pub join-spaced : (w : List ℕ) (ws : List (List ℕ)) → join_with_byte 32 (w ∷ ws) ≡ w ++ spaced ws
join-spaced w [] = sym (append-nil w)
join-spaced w (v ∷ ws) = ap (λ l. w ++ 32 ∷ l) (join-spaced v ws)

spaced-append : (ws vs : List (List ℕ)) → spaced (ws ++ vs) ≡ spaced ws ++ spaced vs
spaced-append [] vs = refl
spaced-append (w ∷ ws) vs =
    ap (λ l. 32 ∷ (w ++ l)) (spaced-append ws vs) ∙ ap (λ l. 32 ∷ l) (sym (append_assoc w (spaced ws) (spaced vs)))

-- the words of the first elements, and of one more
pub spaced_more : {X : Type 0} (f : X → List ℕ) (xs : List X) (i : ℕ) (d : X) (front before after : List ℕ) →
    i < length xs
    → before ≡ front ++ spaced (map f (take i xs)) → after ≡ before ++ 32 ∷ f (get_or xs i d) →
    after ≡ front ++ spaced (map f (take (i + 1) xs))
spaced_more f xs i d front before after lt held added =
    let word = f (get_or xs i d) in
    let words = map f (take i xs) in
    let grown : spaced (map f (take (i + 1) xs)) ≡ spaced words ++ 32 ∷ word =
    ap (λ l. spaced (map f l)) (take_more xs i d lt) ∙ ap spaced (map-append f (take i xs) (get_or xs i d ∷ []))
    ∙ spaced-append words (word ∷ []) ∙ ap (λ l. spaced words ++ 32 ∷ l) (append-nil word) in
    added ∙ ap (λ l. l ++ 32 ∷ word) held ∙ append_assoc front (spaced words) (32 ∷ word)
    ∙ ap (λ l. front ++ l) (sym grown)

-- one word and then more
pub spaced_first : (w : List ℕ) (ws : List (List ℕ)) (front before after : List ℕ) → before ≡ front ++ 32 ∷ w →
    after ≡ before ++ spaced ws → after ≡ front ++ spaced (w ∷ ws)
spaced_first w ws front before after first rest =
    rest ∙ ap (λ l. l ++ spaced ws) first ∙ append_assoc front (32 ∷ w) (spaced ws)

-- some words and then one more
pub spaced_last : (ws : List (List ℕ)) (w : List ℕ) (front before after : List ℕ) → before ≡ front ++ spaced ws →
    after ≡ before ++ 32 ∷ w → after ≡ front ++ spaced (ws ++ w ∷ [])
spaced_last ws w front before after first rest =
    rest ∙ ap (λ l. l ++ 32 ∷ w) first ∙ append_assoc front (spaced ws) (32 ∷ w)
    ∙ ap (λ l. front ++ l) (ap (λ l. spaced ws ++ 32 ∷ l) (sym (append-nil w)) ∙ sym (spaced-append ws (w ∷ [])))

-- a line's first words, and the rest
pub line_joined : (w : List ℕ) (ws vs : List (List ℕ)) (before after : List ℕ) → before ≡ join_with_byte 32 (w ∷ ws) →
    after ≡ before ++ spaced vs
    → after ≡ join_with_byte 32 (w ∷ (ws ++ vs))
line_joined w ws vs before after first rest =
    rest ∙ ap (λ l. l ++ spaced vs) (first ∙ join-spaced w ws) ∙ append_assoc w (spaced ws) (spaced vs)
    ∙ ap (λ l. w ++ l) (sym (spaced-append ws vs)) ∙ sym (join-spaced w (ws ++ vs))
