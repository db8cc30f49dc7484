-- How an input falls into lines, from its front on.
use Rattle.std.proofs.Common.{◌≡◌, ℕ, ◌+◌, ◌<◌, ◌≤◌, Bool, true, false, eqb, ltb, List, [], ◌∷◌, ◌++◌, length, take, get_or, refl, sym, ap, ◌∙◌, inl, inr, arith, append_assoc, length-append, length-take, leb}
use Rattle.std.specs.List.{slice_split, position_or_len, before_first, after_first, All}
use Rattle.std.proofs.lemmas.Bool.{ltb-true, ltb-false, leb-true, leb-false, eqb-true}
use Rattle.std.proofs.lemmas.Grind.{common_steps}
use Rattle.std.proofs.lemmas.Bool.Decides.{eqb_tells, nat_tests}
use Rattle.std.proofs.lemmas.List.Sums.{fails_before_first, passes_at_first}
use Rattle.std.proofs.lemmas.List.Splits.{slice_split_first, slice_split_none, slice_split_at, length-slice_split}
use Rattle.wio_core.specs.Lines.{LacksFeed, IsOpen, IsTooLong}
use Rattle.program_run.specs.Lines.{lines_of, lines_of_parts, last_line, bytes_of, size_of}
use Rattle.program_run.specs.Reading.{LackFeeds}

parts_more : (cut : Bool) (x : List ℕ) (parts : List (List ℕ)) → 0 < length parts
    → lines_of_parts cut (x ∷ parts) ≡ x ∷ lines_of_parts cut parts
parts_more cut x [] some = absurd (omega arith)
parts_more cut x (y ∷ parts) some = refl

no_feed : (line : List ℕ) → LacksFeed line → All (λ b. eqb b 10 ≡ false) line
no_feed line lacks k d lt = elim (eqb_tells (get_or line k d) 10) [ inl p ↦ absurd (lacks k d lt p.1) | inr p ↦ p.0 ]

-- a line that a line feed ends
pub lines_first : (cut : Bool) (line more : List ℕ) → LacksFeed line
    → lines_of cut (line ++ 10 ∷ more) ≡ line ∷ lines_of cut more
unfolding lines_of
lines_first cut line more lacks =
    let p : ℕ → Bool = λ b. eqb b 10 in
    ap (lines_of_parts cut) (slice_split_at p line 10 more (no_feed line lacks) refl)
    ∙ parts_more cut line (slice_split p more) (let len = length-slice_split p more in omega (arith, len))

-- lines before other bytes
pub lines_front : (cut : Bool) (done : List (List ℕ)) (more : List ℕ) → LackFeeds done
    → lines_of cut (bytes_of done ++ more) ≡ done ++ lines_of cut more
lines_front cut [] more lack = refl
lines_front cut (line ∷ done) more lack =
    ap (lines_of cut) (append_assoc line (10 ∷ bytes_of done) more)
    ∙ lines_first cut line (bytes_of done ++ more) lack.0
    ∙ ap (λ l. line ∷ l) (lines_front cut done more lack.1)

pub lines_one : (cut : Bool) (bytes : List ℕ) → LacksFeed bytes → lines_of cut bytes ≡ last_line cut bytes
unfolding lines_of
lines_one cut bytes lacks = ap (lines_of_parts cut) (slice_split_none (λ b. eqb b 10) bytes (no_feed bytes lacks))

-- the beginning of a line is none where the input is cut off in it
pub lines_open : (bytes : List ℕ) → IsOpen bytes → lines_of true bytes ≡ []
lines_open bytes begun =
    let few = begun.few in
    let short : leb (length bytes) 8400 ≡ true = grind (arith, nat_tests) in
    lines_one true bytes begun.lacks ∙ grind (arith, nat_tests)

pub lines_nil : (cut : Bool) → lines_of cut [] ≡ []
unfolding lines_of
lines_nil cut = refl

-- the last line may lack its line feed
pub lines_last : (bytes : List ℕ) → LacksFeed bytes → 0 < length bytes → lines_of false bytes ≡ bytes ∷ []
lines_last bytes lacks some =
    let other : eqb (length bytes) 0 ≡ false = grind (arith, nat_tests) in
    lines_one false bytes lacks ∙ rw other refl

pub length_of : (lines : List (List ℕ)) → length (bytes_of lines) ≡ size_of lines
length_of [] = refl
length_of (line ∷ lines) = let more = length_of lines in omega (arith, length-append line (10 ∷ bytes_of lines), more)

pub lack_both : (a b : List (List ℕ)) → LackFeeds a → LackFeeds b → LackFeeds (a ++ b)
lack_both [] b h k = k
lack_both (line ∷ a) b h k = (h.0, lack_both a b h.1 k)

pub bytes_both : (a b : List (List ℕ)) → bytes_of (a ++ b) ≡ bytes_of a ++ bytes_of b
bytes_both [] b = refl
bytes_both (line ∷ a) b = ap (λ l. line ++ 10 ∷ l) (bytes_both a b)
    ∙ sym (append_assoc line (10 ∷ bytes_of a) (bytes_of b))

pub size_both : (a b : List (List ℕ)) → size_of (a ++ b) ≡ size_of a + size_of b
size_both [] b = omega arith
size_both (line ∷ a) b = let more = size_both a b in omega (arith, more)

-- there are at most as many lines as bytes in them
pub few_lines : (lines : List (List ℕ)) → length lines ≤ size_of lines
few_lines [] = omega arith
few_lines (line ∷ lines) = let more = few_lines lines in omega (arith, more)

same_front : (bytes more : List ℕ) (n k : ℕ) → k < n → k < length bytes
    → get_or (take n bytes) k 0 ≡ get_or (bytes ++ more) k 0
same_front bytes more n k lt inside = grind (arith, common_steps)

front_lacks : (bytes more : List ℕ) → IsTooLong bytes → (k : ℕ) → k < 8401 → get_or (bytes ++ more) k 0 ≡ 10 → ⊥
front_lacks bytes more h k lt e =
    let many = h.many in
    let len = length-take 8401 bytes in
    let inside : k < length (take 8401 bytes) = omega arith in
    let shorter : k < length bytes = omega arith in
    h.lacks k 0 inside (same_front bytes more 8401 k lt shorter ∙ e)

pub last_long : (cut : Bool) (whole : List ℕ) → eqb (length whole) 0 ≡ false → leb (length whole) 8400 ≡ false
    → last_line cut whole ≡ whole ∷ []
last_long true whole e f = rw (e, f) refl
last_long false whole e f = rw e refl

-- a list of more bytes than a line may have, of which the first have no line feed, begins with a line that is too long
BeginsLong : Bool → List ℕ → Type 0
BeginsLong cut whole = (raw : List ℕ) × (lines : List (List ℕ)) × (lines_of cut whole ≡ raw ∷ lines)
    × (8400 < length raw)

ends_inside : (cut : Bool) (whole : List ℕ) → ((k : ℕ) → k < 8401 → get_or whole k 0 ≡ 10 → ⊥)
    → position_or_len (λ b. eqb b 10) whole < length whole → BeginsLong cut whole
unfolding lines_of BeginsLong
ends_inside cut whole lacks inside =
    let p : ℕ → Bool = λ b. eqb b 10 in
    let at : ℕ = position_or_len p whole in
    let here : get_or whole at 0 ≡ 10 = eqb-true (get_or whole at 0) 10 (passes_at_first p whole 0 inside) in
    let late : 8401 ≤ at = elim (leb 8401 at) as (λ b. leb 8401 at ≡ b → 8401 ≤ at) [
      | true ↦ λ e. leb-true 8401 at e
      | false ↦ λ e. absurd (lacks at (leb-false 8401 at e) here)
    ] refl in
    let len = length-slice_split p (after_first p whole) in (
      before_first p whole,
      lines_of_parts cut (slice_split p (after_first p whole)),
      ap (lines_of_parts cut) (slice_split_first p whole 0 inside)
          ∙ parts_more cut (before_first p whole) (slice_split p (after_first p whole)) (omega (arith, len)),
      omega (arith, length-take at whole),
    )

ends_nowhere : (cut : Bool) (whole : List ℕ) → 8400 < length whole
    → length whole ≤ position_or_len (λ b. eqb b 10) whole → BeginsLong cut whole
unfolding lines_of BeginsLong
ends_nowhere cut whole wide outside =
    let p : ℕ → Bool = λ b. eqb b 10 in
    let other : eqb (length whole) 0 ≡ false = grind (arith, nat_tests) in
    let wider : leb (length whole) 8400 ≡ false = grind (arith, nat_tests) in
    let none : All (λ b. eqb b 10 ≡ false) whole = λ k d lt. fails_before_first p whole k d (omega arith) in
    (whole, [], ap (lines_of_parts cut) (slice_split_none p whole none) ∙ last_long cut whole other wider, wide)

-- more bytes than a line may have give a line that is too long, whatever follows
pub lines_long : (cut : Bool) (bytes more : List ℕ) → IsTooLong bytes
    → (raw : List ℕ) × (lines : List (List ℕ)) × (lines_of cut (bytes ++ more) ≡ raw ∷ lines) × (8400 < length raw)
unfolding BeginsLong
lines_long cut bytes more h =
    let whole : List ℕ = bytes ++ more in
    let many = h.many in
    let wide : 8400 < length whole = omega (arith, length-append bytes more) in
    let at : ℕ = position_or_len (λ b. eqb b 10) whole in
    elim (ltb at (length whole)) as (λ b. ltb at (length whole) ≡ b → BeginsLong cut whole) [
      | true ↦ λ e. ends_inside cut whole (front_lacks bytes more h) (ltb-true at (length whole) e)
      | false ↦ λ e. ends_nowhere cut whole wide (ltb-false at (length whole) e)
    ] refl
