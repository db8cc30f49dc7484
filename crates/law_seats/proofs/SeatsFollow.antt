-- Line by line each seat is told what its own session writes.
use Rattle.std.proofs.Common.{◌≡◌, ℕ, zero, suc, ◌+◌, ◌<◌, ◌≤◌, Bool, true, false, List, [], ◌∷◌, ◌++◌, length, Option, Some, None, refl, sym, ap, ap₂, subst, ◌∙◌, arith, append_assoc, append-nil}
use Rattle.std.specs.Prelude.{codes, if◌then◌else◌}
use Rattle.std.specs.Fmt.{decimal}
use Rattle.std.specs.List.{slice_get}
use Rattle.session_text.specs.declared.seat_line.SeatLine.{SeatLine}
use Rattle.session_text.specs.declared.seat_line.SeatsLine.{SeatsLine}
use Rattle.session_text.specs.declared.seat_line.SeatsLine.TheVariants as said
use Rattle.session_text.specs.SeatLines.{seats_line_of}
use Rattle.wio_core.specs.Lines.{LacksFeed}
use Rattle.lines_transcript.specs.Printed.{IsFront}
use Rattle.seat_set.specs.Seats.{Seat, is_for, line_in, seat_after, seat_said, seats_after, seats_said}
use Rattle.seat_set.proofs.SeatsInTurn.{same_count}
use Rattle.program_run.specs.declared.last_line.LastLine.TheVariants as last
use Rattle.program_run.specs.declared.status.Status.{Status}
use Rattle.program_run.specs.Endings.{Answer, bad_line, ending, long_line, with_front, without_end}
use Rattle.program_run.specs.Lines.{bytes_of}
use Rattle.program_run.specs.Seats.{by_seats_line, seats_endings, seats_from, seats_last, some_full}
use Rattle.law_seats.specs.SeatTexts.{given, gives, told_to, with_line}
use Rattle.law_seats.specs.SeatsLaws.{IsAsFarAs}
use Rattle.law_seats.proofs.WholeTexts.{IsWhole, told_both, told_of, whole_both}
use Rattle.law_seats.proofs.MarkedLines.{behind_first, decimal_lacks_feed, lacks_feed, no_feed_both, one_whole}
use Rattle.law_seats.proofs.SeatsTexts.{after_at, endings_at, endings_whole, own_ending, said_at, said_whole}
use Rattle.law_seats.proofs.LinesGiven.{IsGiven, line_ends, line_for_seat}
use Rattle.law_seats.proofs.SessionsFollow.{answer_after, at_end, next_line, text_after, text_first, text_of}

-- ---- a last line tells no seat anything

words_silent : (seat b : ℕ) (line : List ℕ) → seat < 10 → 58 ≤ b → LacksFeed (b ∷ line) →
    told_to seat ((b ∷ line) ++ 10 ∷ []) ≡ []
words_silent seat b line small letter lack =
    told_of seat ((b ∷ line) ∷ []) (lack, tt)
    ∙ ap (λ (o : Option (List ℕ)). bytes_of (with_line o []))
    (behind_first seat b line small (λ e. omega (arith, e, small, letter)))

bad_lacks : (n : ℕ) → LacksFeed (codes "bad line " ++ decimal n)
bad_lacks n = no_feed_both (codes "bad line ") (decimal n) (lacks_feed (codes "bad line ") refl) (decimal_lacks_feed n)

bad_silent : (seat n : ℕ) → seat < 10 → told_to seat (bad_line n) ≡ []
bad_silent seat n small = words_silent seat 98 (codes "ad line " ++ decimal n) small (omega arith) (bad_lacks n)

long_silent : (seat : ℕ) → seat < 10 → told_to seat long_line ≡ []
long_silent seat small =
    words_silent seat 105 (codes "nput too long") small (omega arith) (lacks_feed (codes "input too long") refl)

end_silent : (seat : ℕ) → seat < 10 → told_to seat (codes "end\n") ≡ []
end_silent seat small = words_silent seat 101 (codes "nd") small (omega arith) (lacks_feed (codes "end") refl)

bad_whole : (n : ℕ) → IsWhole (bad_line n)
bad_whole n = one_whole (codes "bad line " ++ decimal n) (bad_lacks n)

long_whole : IsWhole long_line
long_whole = one_whole (codes "input too long") (lacks_feed (codes "input too long") refl)

end_whole : IsWhole (codes "end\n")
end_whole = one_whole (codes "end") (lacks_feed (codes "end") refl)

-- ---- what an answer tells the seat, behind what it was told before

-- the answer tells it what the other writes, as far as it was played, and is whole lines
pub record Tells (seat : ℕ) (x : Seat) (answer own : Answer) : Type 0 where
  pub whole : IsWhole answer.0
  pub told : IsAsFarAs answer.1 (text_of x ++ told_to seat answer.0) own.0

as_far : (s : Status) (a b c d : List ℕ) → a ≡ b → c ≡ d → IsAsFarAs s a c → IsAsFarAs s b d
as_far s a b c d e f h = subst (λ (t : List ℕ). IsAsFarAs s t d) e (subst (λ (t : List ℕ). IsAsFarAs s a t) f h)

front_still : (text more whole : List ℕ) → more ≡ [] → IsFront text whole → IsFront (text ++ more) whole
front_still text more whole none h =
    (h.0, ap (λ (t : List ℕ). (text ++ t) ++ h.0) none ∙ ap (λ (t : List ℕ). t ++ h.0) (append-nil text) ∙ h.1)

tells_bad : (seat n m : ℕ) (x : Seat) (lines : List (List ℕ)) → seat < 10 →
    Tells seat x (ending (last.Bad n)) (answer_after x m lines)
tells_bad seat n m x lines small = record {
  whole = bad_whole n;
  told = front_still (text_of x) (told_to seat (bad_line n)) (answer_after x m lines).0 (bad_silent seat n small)
      (text_first x m lines);
}

tells_long : (seat m : ℕ) (x : Seat) (lines : List (List ℕ)) → seat < 10 →
    Tells seat x (ending last.Long) (answer_after x m lines)
tells_long seat m x lines small = record {
  whole = long_whole;
  told = front_still (text_of x) (told_to seat long_line) (answer_after x m lines).0 (long_silent seat small)
      (text_first x m lines);
}

tells_none : (cut : Bool) (seat n m : ℕ) (x : Seat) (lines : List (List ℕ)) → seat < 10 →
    Tells seat x (without_end cut n) (answer_after x m lines)
tells_none true seat n m x lines small = tells_long seat m x lines small
tells_none false seat n m x lines small = tells_bad seat (n + 1) m x lines small

-- ---- the line `end`

tells_end : (seat i m : ℕ) (seats : List Seat) (x : Seat) (full : Bool) → seat ≡ 1 + i → length seats ≤ 8 →
    slice_get seats i ≡ Some x
    → Tells seat x (with_front (seats_endings 1 seats) (ending (if full then last.OverFull else last.Over)))
    (answer_after x m (codes "end" ∷ []))
tells_end seat i m seats x full is few at = by full
  where
    told : text_of x ++ told_to seat (seats_endings 1 seats ++ codes "end\n") ≡ (answer_after x m (codes "end" ∷ [])).0
    told =
        let within = past i seats at in
        ap (λ (t : List ℕ). text_of x ++ t)
        (told_both seat (seats_endings 1 seats) (codes "end\n") (endings_whole seats) end_whole
        ∙ ap₂ (λ (a b : List ℕ). a ++ b) (endings_at seat i seats x is few at)
        (end_silent seat (omega (arith, is, few, within)))
        ∙ append-nil (own_ending x.full (length x.play.journal)))
        ∙ sym (at_end x m)
      where
        past : (j : ℕ) (seats : List Seat) → slice_get seats j ≡ Some x → j < length seats
        past j [] e = absurd (cc e)
        past zero (y ∷ rest) e = omega arith
        past (suc j) (y ∷ rest) e = let more = past j rest e in omega (arith, more)

    whole : IsWhole (seats_endings 1 seats ++ codes "end\n")
    whole = whole_both (seats_endings 1 seats) (codes "end\n") (endings_whole seats) end_whole

    by : (b : Bool) → Tells seat x (with_front (seats_endings 1 seats)
        (ending (if b then last.OverFull else last.Over))) (answer_after x m (codes "end" ∷ []))
    by true = record { whole = whole; told = told }
    by false = record { whole = whole; told = told }

-- ---- a line for seats

-- how many lines the session of the seat has more
abbrev more_lines : Bool → ℕ → ℕ
more_lines b m = if b then m + 1 else m

abbrev seat_then : Bool → SeatLine → Seat → Seat
seat_then b line x = if b then seat_after (line_in line) x else x

abbrev said_then : Bool → SeatLine → Seat → List ℕ
said_then b line x = if b then seat_said (line_in line) x else []

text_then : (b : Bool) (line : SeatLine) (x : Seat) → text_of (seat_then b line x) ≡ text_of x ++ said_then b line x
text_then true line x = text_after (line_in line) x
text_then false line x = sym (append-nil (text_of x))

own_then : (b : Bool) (seat m : ℕ) (line : SeatLine) (x : Seat) (raw : List ℕ) (lines : List (List ℕ)) →
    IsGiven b seat line raw
    → answer_after (seat_then b line x) (more_lines b m) (lines ++ codes "end" ∷ [])
    ≡ answer_after x m (with_line (gives seat raw) lines ++ codes "end" ∷ [])
own_then true seat m line x raw lines g =
    sym (ap (λ (o : Option (List ℕ)). answer_after x m (with_line o lines ++ codes "end" ∷ [])) g.1
    ∙ next_line x m g.0 (line_in line) (lines ++ codes "end" ∷ []) g.2)
own_then false seat m line x raw lines g =
    sym (ap (λ (o : Option (List ℕ)). answer_after x m (with_line o lines ++ codes "end" ∷ [])) g)

tells_line : (seat i m : ℕ) (seats : List Seat) (x : Seat) (line : SeatLine) (raw : List ℕ) (lines : List (List ℕ))
    (rest : Answer)
    → seat ≡ 1 + i → length seats ≤ 8 → slice_get seats i ≡ Some x → IsGiven (is_for line seat) seat line raw
    → Tells seat (seat_then (is_for line seat) line x) rest
    (answer_after (seat_then (is_for line seat) line x) (more_lines (is_for line seat) m)
    (given seat lines ++ codes "end" ∷ []))
    → Tells seat x (with_front (seats_said line 1 seats) rest)
    (answer_after x m (with_line (gives seat raw) (given seat lines) ++ codes "end" ∷ []))
tells_line seat i m seats x line raw lines rest is few at g later =
    let b = is_for line seat in
    let said : List ℕ = seats_said line 1 seats in
    let after : List ℕ = told_to seat rest.0 in
    let both : told_to seat (said ++ rest.0) ≡ said_then b line x ++ after =
    told_both seat said rest.0 (said_whole line seats) later.whole
    ∙ ap (λ (t : List ℕ). t ++ after) (said_at line seat i seats x is few at) in
    record {
      whole = whole_both said rest.0 (said_whole line seats) later.whole;
      told = as_far rest.1 (text_of (seat_then b line x) ++ after) (text_of x ++ told_to seat (said ++ rest.0))
          (answer_after (seat_then b line x) (more_lines b m) (given seat lines ++ codes "end" ∷ [])).0
          (answer_after x m (with_line (gives seat raw) (given seat lines) ++ codes "end" ∷ [])).0
          (ap (λ (t : List ℕ). t ++ after) (text_then b line x) ∙ append_assoc (text_of x) (said_then b line x) after
          ∙ ap (λ (t : List ℕ). text_of x ++ t) (sym both))
          (ap (λ (a : Answer). a.0) (own_then b seat m line x raw (given seat lines) g))
          later.told;
    }

-- ---- all lines

abbrev given_by : Bool → ℕ → List ℕ → List (List ℕ) → List (List ℕ)
given_by ends seat raw lines = if ends then [] else with_line (gives seat raw) (given seat lines)

tells_by : (seat i n m : ℕ) (seats : List Seat) (x : Seat) (o : Option SeatsLine) (raw : List ℕ) (lines : List (List ℕ))
    (rest : List Seat → Answer) → seat ≡ 1 + i → seat < 10 → length seats ≤ 8 → slice_get seats i ≡ Some x
    → seats_line_of (length seats) raw ≡ o
    → ((next : List Seat) (y : Seat) (k : ℕ) → length next ≤ 8 → slice_get next i ≡ Some y
    → Tells seat y (rest next) (answer_after y k (given seat lines ++ codes "end" ∷ [])))
    → Tells seat x (by_seats_line n seats o rest) (answer_after x m (given seat (raw ∷ lines) ++ codes "end" ∷ []))
tells_by seat i n m seats x None raw lines rest is small few at reads later =
    tells_bad seat (n + 1) m x (given seat (raw ∷ lines) ++ codes "end" ∷ []) small
tells_by seat i n m seats x (Some said.End) raw lines rest is small few at reads later =
    subst (λ (b : Bool). Tells seat x (with_front (seats_endings 1 seats) (ending (seats_last seats)))
    (answer_after x m (given_by b seat raw lines ++ codes "end" ∷ [])))
    (sym (line_ends (length seats) raw reads))
    (tells_end seat i m seats x (some_full seats) is few at)
tells_by seat i n m seats x (Some (said.Seat line)) raw lines rest is small few at reads later =
    let l = line_for_seat seat (length seats) line raw small few reads in
    let next : List Seat = seats_after line 1 seats in
    let b = is_for line seat in
    let still : length next ≤ 8 = omega (arith, few, same_count line 1 seats) in
    subst (λ (t : Bool). Tells seat x (with_front (seats_said line 1 seats) (rest next))
    (answer_after x m (given_by t seat raw lines ++ codes "end" ∷ [])))
    (sym l.goes_on)
    (tells_line seat i m seats x line raw lines (rest next) is few at l.given
    (later next (seat_then b line x) (more_lines b m) still (after_at line seat 1 i seats x is at)))

pub seats_tell : (cut : Bool) (seat i n m : ℕ) (seats : List Seat) (x : Seat) (lines : List (List ℕ)) → seat ≡ 1 + i →
    seat < 10
    → length seats ≤ 8 → slice_get seats i ≡ Some x
    → Tells seat x (seats_from cut n seats lines) (answer_after x m (given seat lines ++ codes "end" ∷ []))
unfolding seats_from
seats_tell cut seat i n m seats x [] is small few at =
    tells_none cut seat n m x (given seat [] ++ codes "end" ∷ []) small
seats_tell cut seat i n m seats x (raw ∷ lines) is small few at =
    tells_by seat i n m seats x (seats_line_of (length seats) raw) raw lines
    (λ next. seats_from cut (n + 1) next lines) is small few at refl
    (λ next y k still there. seats_tell cut seat i (n + 1) k next y lines is small still there)
