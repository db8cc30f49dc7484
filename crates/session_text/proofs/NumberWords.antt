-- Words that are read as numbers, one after the other.
use Rattle.std.proofs.Common.{◌≡◌, ℕ, ◌+◌, ◌<◌, ◌≤◌, List, [], ◌∷◌, ◌++◌, length, Option, Some, None, Err, refl, sym, ap, append_assoc, get_or, Bor}
use Rattle.std.specs.Prelude.{map, drop}
use Rattle.std.proofs.lemmas.List.{append-nil, drop_more, drop_all}
use Rattle.session_text.specs.declared.line.BadLine.{BadLine}
use Rattle.session_text.specs.declared.line.BadLine.TheVariants as bad
use Rattle.session_text.specs.Words.{◌>>=◌, number_of, numbers_of}
use Rattle.session_text.specs.Reading.{Reads}

-- numbers that were read, before those that follow
abbrev pub behind : List ℕ → Option (List ℕ) → Option (List ℕ)
behind ns more = more >>= (λ ms. Some (ns ++ ms))

behind_one : (ns : List ℕ) (n : ℕ) (o : Option (List ℕ)) →
    behind ns (o >>= (λ ms. Some (n ∷ ms))) ≡ behind (ns ++ n ∷ []) o
behind_one ns n None = refl
behind_one ns n (Some ms) = ap Some (sym (append_assoc ns (n ∷ []) ms))

-- one number more was read
pub one_more : (ns : List ℕ) (n : ℕ) (word : List ℕ) (words : List (List ℕ)) → number_of word ≡ Some n →
    behind ns (numbers_of (word ∷ words)) ≡ behind (ns ++ n ∷ []) (numbers_of words)
unfolding numbers_of
one_more ns n word words is = rw is (behind_one ns n (numbers_of words))

-- a word that is no number is refused, and so are all
pub refused : (ns : List ℕ) (word : List ℕ) (words : List (List ℕ)) (why : BadLine) →
    Reads {X = ℕ} (Err why) (number_of word)
    → Reads {X = List ℕ} (Err why) (behind ns (numbers_of (word ∷ words)))
unfolding numbers_of
refused ns word words bad.Grammar read = rw read refl
refused ns word words bad.NoMemory read = tt

-- no word is left
pub all_read : (ns : List ℕ) → behind ns (numbers_of []) ≡ Some ns
unfolding numbers_of
all_read ns = ap Some (append-nil ns)

-- the words from one on
abbrev pub words_from : List (Bor (List ℕ)) → ℕ → List (List ℕ)
words_from words i = map (λ w. w.now) (drop i words)

pub first_from : (words : List (Bor (List ℕ))) (i : ℕ) (d : Bor (List ℕ)) → i < length words →
    words_from words i ≡ (get_or words i d).now ∷ words_from words (i + 1)
first_from words i d lt = ap (λ (ws : List (Bor (List ℕ))). map (λ w. w.now) ws) (drop_more words i d lt)

pub none_from : (words : List (Bor (List ℕ))) (i : ℕ) → length words ≤ i → words_from words i ≡ []
none_from words i le = ap (λ (ws : List (Bor (List ℕ))). map (λ w. w.now) ws) (drop_all i words le)
