-- Words two by two, behind the first so many
use Rattle.std.proofs.Common.{◌≡◌, ◌+◌, ◌<◌, ◌≤◌, ◌&&◌, ◌-◌, ◌∷◌, [], ℕ, zero, suc, nat_eq, true, false, Bool, if◌then◌else◌, List, length, map, drop, get_or, length-drop, refl, sym, ap, ◌∙◌, arith}
use Rattle.std.proofs.lemmas.List.{drop_more}
use Rattle.std.specs.Str.{bytes_eq}
use Rattle.serve_words.specs.Words.{is_option, is_value, are_pairs, values_of}

-- what a word is among the words' bytes
pub word_is : {W : Type 0} (bytes : W → List ℕ) (words : List W) (i : ℕ) (word : W) → word ≡ get_or words i word
    → get_or (map bytes words) i (bytes word) ≡ bytes word
word_is bytes [] i word is = refl
word_is bytes (w ∷ words) zero word is = ap bytes (sym is)
word_is bytes (w ∷ words) (suc i) word is = word_is bytes words i word is

-- two words stand before the rest
two_more : (words : List (List ℕ)) (i : ℕ) (option value : List ℕ) → i + 1 < length words
    → get_or words i option ≡ option → get_or words (i + 1) value ≡ value
    → drop i words ≡ option ∷ value ∷ drop (i + 2) words
two_more words i option value within one two =
    drop_more words i option (omega arith)
    ∙ (ap (λ o. o ∷ drop (i + 1) words) one
    ∙ ap (λ rest. option ∷ rest) (drop_more words (i + 1) value within
    ∙ (ap (λ v. v ∷ drop (i + 1 + 1) words) two ∙ ap (λ k. value ∷ drop k words) (omega arith))))

pub are_pairs_more : (words : List (List ℕ)) (i : ℕ) (option value : List ℕ) → i + 1 < length words
    → get_or words i option ≡ option → get_or words (i + 1) value ≡ value
    → are_pairs (drop i words) ≡ (is_option option && is_value value && are_pairs (drop (i + 2) words))
are_pairs_more words i option value within one two = ap are_pairs (two_more words i option value within one two)

pub at_most_one : (b : Bool) → (if b then 1 else 0) ≤ 1
at_most_one true = omega arith
at_most_one false = omega arith

pub uses_more : (name : List ℕ) (words : List (List ℕ)) (i : ℕ) (option : List ℕ) → i + 1 < length words
    → get_or words i option ≡ option
    → length (values_of name (drop i words))
    ≡ (if bytes_eq option name then 1 else 0) + length (values_of name (drop (i + 2) words))
uses_more name words i option within one =
    ap (λ ws. length (values_of name ws)) (drop_more words i option (omega arith)
    ∙ (ap (λ o. o ∷ drop (i + 1) words) one
    ∙ ap (λ rest. option ∷ rest) (drop_more words (i + 1) option within
    ∙ ap (λ k. get_or words (i + 1) option ∷ drop k words) (omega arith))))
    ∙ either (bytes_eq option name)
  where
    either : (b : Bool)
        → length (if b then get_or words (i + 1) option ∷ values_of name (drop (i + 2) words)
        else values_of name (drop (i + 2) words))
        ≡ (if b then 1 else 0) + length (values_of name (drop (i + 2) words))
    either true = omega arith
    either false = omega arith

-- words of which a pair isn't an option with a value
pub no_pairs : (words : List (List ℕ)) (i : ℕ) (option value : List ℕ) → i + 1 < length words
    → get_or words i option ≡ option → get_or words (i + 1) value ≡ value → (is_option option && is_value value) ≡ false
    → are_pairs (drop i words) ≡ false
no_pairs words i option value within one two bad =
    are_pairs_more words i option value within one two ∙ both (is_option option) (is_value value) bad
  where
    both : (a b : Bool) → (a && b) ≡ false → (a && b && are_pairs (drop (i + 2) words)) ≡ false
    both true true e = absurd cc
    both true false e = refl
    both false b e = refl

-- words of which a pair is an option with a value
pub one_pair : (words : List (List ℕ)) (i : ℕ) (option value : List ℕ) → i + 1 < length words
    → get_or words i option ≡ option → get_or words (i + 1) value ≡ value → (is_option option && is_value value) ≡ true
    → are_pairs (drop i words) ≡ are_pairs (drop (i + 2) words)
one_pair words i option value within one two good =
    are_pairs_more words i option value within one two ∙ both (is_option option) (is_value value) good
  where
    both : (a b : Bool) → (a && b) ≡ true → (a && b && are_pairs (drop (i + 2) words)) ≡ are_pairs (drop (i + 2) words)
    both true true e = refl
    both true false e = absurd cc
    both false b e = absurd cc

-- one word alone, or none, is left
one_left : (words : List (List ℕ)) → length words ≤ 1 → nat_eq (length words) 0 ≡ are_pairs words
one_left [] few = refl
one_left (w ∷ []) few = refl
one_left (w ∷ v ∷ words) few = absurd (omega arith)

no_values_left : (name : List ℕ) (words : List (List ℕ)) → length words ≤ 1 → values_of name words ≡ []
no_values_left name [] few = refl
no_values_left name (w ∷ []) few = refl
no_values_left name (w ∷ v ∷ words) few = absurd (omega arith)

pub pairs_left : (words : List (List ℕ)) (i : ℕ) → length words - i ≤ 1
    → nat_eq (length words - i) 0 ≡ are_pairs (drop i words)
pairs_left words i few =
    let long = length-drop i words in
    ap (λ n. nat_eq n 0) (sym long) ∙ one_left (drop i words) (omega arith)

pub no_uses_left : (name : List ℕ) (words : List (List ℕ)) (i : ℕ) → length words - i ≤ 1
    → length (values_of name (drop i words)) ≡ 0
no_uses_left name words i few =
    let long = length-drop i words in ap length (no_values_left name (drop i words) (omega arith))
