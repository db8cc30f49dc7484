-- Texts of whole lines, and what they tell a seat.
use Rattle.std.proofs.Common.{◌≡◌, ℕ, ◌≤◌, eqb, false, List, [], ◌∷◌, ◌++◌, length, Option, Some, None, refl, sym, ap, ap₂, ◌∙◌, arith, append_assoc, append-nil}
use Rattle.std.specs.List.{flat_map, join_with_byte}
use Rattle.std.proofs.lemmas.List.Splits.{join_with_byte-slice_split, length-slice_split}
use Rattle.program_run.specs.Lines.{lines_of, bytes_of}
use Rattle.program_run.specs.Reading.{LackFeeds}
use Rattle.program_run.proofs.InputSplits.{lines_front, lines_nil, lack_both, bytes_both}
use Rattle.program_run.proofs.WholeLines.{parts_of, parts_lack}
use Rattle.lines_transcript.specs.Seats.{seat_mark}
use Rattle.law_seats.specs.SeatTexts.{behind, with_line, told_lines, told_to}

-- the text is these lines
pub record IsWhole (text : List ℕ) : Type 0 where
  pub lines : List (List ℕ)
  pub is : text ≡ bytes_of lines
  pub lack : LackFeeds lines

pub whole_none : IsWhole []
whole_none = record { lines = []; is = refl; lack = tt }

pub whole_both : (a b : List ℕ) → IsWhole a → IsWhole b → IsWhole (a ++ b)
whole_both a b h k = record {
  lines = h.lines ++ k.lines;
  is = ap₂ (λ (x y : List ℕ). x ++ y) h.is k.is ∙ sym (bytes_both h.lines k.lines);
  lack = lack_both h.lines k.lines h.lack k.lack;
}

joined : (ws : List (List ℕ)) → 1 ≤ length ws → join_with_byte 10 ws ++ 10 ∷ [] ≡ bytes_of ws
joined [] some = absurd (omega (arith, some))
joined (w ∷ []) some = refl
joined (w ∷ v ∷ ws) some =
    append_assoc w (10 ∷ join_with_byte 10 (v ∷ ws)) (10 ∷ [])
    ∙ ap (λ (l : List ℕ). w ++ 10 ∷ l) (joined (v ∷ ws) (omega arith))

-- whatever is before a line feed
pub whole_fed : (w : List ℕ) → IsWhole (w ++ 10 ∷ [])
whole_fed w = record {
  lines = parts_of w;
  is = ap (λ (l : List ℕ). l ++ 10 ∷ []) (sym (join_with_byte-slice_split 10 w))
      ∙ joined (parts_of w) (let len = length-slice_split (λ b. eqb b 10) w in omega (arith, len));
  lack = parts_lack w;
}

pub whole_flat : {A : Type 0} (f : A → List ℕ) (xs : List A) → ((x : A) → IsWhole (f x)) → IsWhole (flat_map f xs)
whole_flat f [] each = whole_none
whole_flat f (x ∷ xs) each = whole_both (f x) (flat_map f xs) (each x) (whole_flat f xs each)

-- ---- what they tell a seat

pub lines_back : (lines : List (List ℕ)) → LackFeeds lines → lines_of false (bytes_of lines) ≡ lines
lines_back lines lack =
    ap (lines_of false) (sym (append-nil (bytes_of lines))) ∙ lines_front false lines [] lack
    ∙ ap (λ (l : List (List ℕ)). lines ++ l) (lines_nil false) ∙ append-nil lines

pub told_of : (seat : ℕ) (lines : List (List ℕ)) → LackFeeds lines →
    told_to seat (bytes_of lines) ≡ bytes_of (told_lines seat lines)
unfolding told_to
told_of seat lines lack = ap (λ (l : List (List ℕ)). bytes_of (told_lines seat l)) (lines_back lines lack)

with_both : (o : Option (List ℕ)) (a b : List (List ℕ)) → with_line o (a ++ b) ≡ with_line o a ++ b
with_both None a b = refl
with_both (Some line) a b = refl

pub lines_both : (seat : ℕ) (a b : List (List ℕ)) → told_lines seat (a ++ b) ≡ told_lines seat a ++ told_lines seat b
lines_both seat [] b = refl
lines_both seat (line ∷ a) b =
    ap (with_line (behind (seat_mark seat) line)) (lines_both seat a b)
    ∙ with_both (behind (seat_mark seat) line) (told_lines seat a) (told_lines seat b)

-- one text behind another
pub told_both : (seat : ℕ) (a b : List ℕ) → IsWhole a → IsWhole b →
    told_to seat (a ++ b) ≡ told_to seat a ++ told_to seat b
unfolding whole_both
told_both seat a b h k =
    let both = whole_both a b h k in
    ap (told_to seat) both.is ∙ told_of seat (h.lines ++ k.lines) both.lack
    ∙ ap bytes_of (lines_both seat h.lines k.lines) ∙ bytes_both (told_lines seat h.lines) (told_lines seat k.lines)
    ∙ sym (ap₂ (λ (x y : List ℕ). x ++ y) (ap (told_to seat) h.is ∙ told_of seat h.lines h.lack)
    (ap (told_to seat) k.is ∙ told_of seat k.lines k.lack))
