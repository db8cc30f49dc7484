-- The first line of a script, and what is left after it.
use Rattle.std.proofs.Common.{◌≡◌, ℕ, ◌+◌, ◌<◌, Bool, true, false, cond, eqb, ltb, List, [], ◌∷◌, length, take, drop, Some, None, refl, ap, ◌∙◌, subst, arith}
use Rattle.std.specs.List.{slice_split, position, position_or_len}
use Rattle.std.proofs.lemmas.Option.{cond_some}
use Rattle.std.proofs.lemmas.Bool.{ltb-true, ltb-false}
use Rattle.std.proofs.lemmas.List.Sums.{fails_before_first}
use Rattle.std.proofs.lemmas.List.Splits.{slice_split_first, slice_split_none, length-slice_split}
use Rattle.trial_script.specs.Lines.{lines_of, lines_of_parts, last_line}

abbrev is_feed : ℕ → Bool
is_feed b = eqb b 10

parts_more : (x : List ℕ) (parts : List (List ℕ)) → 0 < length parts →
    lines_of_parts (x ∷ parts) ≡ x ∷ lines_of_parts parts
parts_more x [] some = absurd (omega arith)
parts_more x (y ∷ parts) some = refl

first_part : (xs : List ℕ) (i : ℕ) → position is_feed xs ≡ Some i →
    slice_split is_feed xs ≡ take i xs ∷ slice_split is_feed (drop (i + 1) xs)
first_part xs i e =
    let at = position_or_len is_feed xs in
    let (test, same) = cond_some (ltb at (length xs)) at i e in
    subst (λ j. slice_split is_feed xs ≡ take j xs ∷ slice_split is_feed (drop (j + 1) xs)) same
    (slice_split_first is_feed xs 0 (ltb-true _ _ test))

one_part : (xs : List ℕ) → position is_feed xs ≡ None → slice_split is_feed xs ≡ xs ∷ []
one_part xs e =
    let at = position_or_len is_feed xs in
    elim (ltb at (length xs)) as
    (λ b. ltb at (length xs) ≡ b → cond b (Some at) None ≡ None → slice_split is_feed xs ≡ xs ∷ []) [
      | true ↦ λ t f. cc
      | false ↦ λ t f. slice_split_none is_feed xs
          (λ k d lt. fails_before_first is_feed xs k d (let le = ltb-false at (length xs) t in omega arith))
    ] refl e

-- a line that a line feed ends
pub lines_some : (bytes : List ℕ) (i : ℕ) → position (λ b. eqb b 10) bytes ≡ Some i →
    lines_of bytes ≡ take i bytes ∷ lines_of (drop (i + 1) bytes)
unfolding lines_of
lines_some bytes i e =
    let rest = slice_split is_feed (drop (i + 1) bytes) in
    ap lines_of_parts (first_part bytes i e) ∙
    parts_more (take i bytes) rest (let len = length-slice_split is_feed (drop (i + 1) bytes) in omega (arith, len))

lines_one : (bytes : List ℕ) → position (λ b. eqb b 10) bytes ≡ None → lines_of bytes ≡ last_line bytes
unfolding lines_of
lines_one bytes e = ap lines_of_parts (one_part bytes e)

-- no line is left
pub lines_none : (bytes : List ℕ) → length bytes ≡ 0 → lines_of bytes ≡ []
unfolding lines_of
lines_none [] e = refl
lines_none (b ∷ bytes) e = absurd (omega (arith, e))

-- the last line lacks its line feed
pub lines_last : (bytes : List ℕ) → position (λ b. eqb b 10) bytes ≡ None → eqb (length bytes) 0 ≡ false →
    lines_of bytes ≡ bytes ∷ lines_of []
lines_last bytes e some = lines_one bytes e ∙ rw (some, lines_none [] refl) refl
