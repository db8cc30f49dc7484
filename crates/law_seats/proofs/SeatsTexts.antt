-- What seats say in turn is told to each of them alone.
use Rattle.std.proofs.Common.{◌≡◌, ℕ, zero, suc, ◌+◌, ◌<◌, ◌≤◌, Bool, true, false, List, [], ◌∷◌, ◌++◌, length, Option, Some, None, refl, ap, ap₂, ◌∙◌, arith, append-nil}
use Rattle.std.specs.Prelude.{if◌then◌else◌}
use Rattle.std.specs.List.{slice_get}
use Rattle.broker_model.specs.declared.journal.Kept.{Kept}
use Rattle.session_text.specs.declared.seat_line.SeatLine.{SeatLine}
use Rattle.lines_transcript.specs.Seats.{seat_lines}
use Rattle.seat_set.specs.Seats.{Seat, is_for, line_in, seat_after, seat_said, seats_after, seats_said}
use Rattle.program_run.specs.Endings.{end_line, full_line}
use Rattle.program_run.specs.Seats.{seat_ending, seats_endings}
use Rattle.law_seats.specs.SeatTexts.{told_to}
use Rattle.law_seats.proofs.WholeTexts.{IsWhole, whole_none, whole_both, told_both, told_of}
use Rattle.law_seats.proofs.MarkedLines.{marked_whole, told_same, told_other, end_whole, end_marked, full_whole, full_marked}
use Rattle.law_seats.proofs.JournalsWhole.{since_whole}

-- each seat says something, the first with this number
abbrev pub spoken : (ℕ → Seat → List ℕ) → ℕ → List Seat → List ℕ
spoken says k [] = []
spoken says k (seat ∷ rest) = seat_lines k (says k seat) ++ spoken says (k + 1) rest

-- in whole lines
abbrev SayLines : (ℕ → Seat → List ℕ) → Type 0
SayLines says = (k : ℕ) (seat : Seat) → IsWhole (says k seat)

pub told_none : (seat : ℕ) → told_to seat [] ≡ []
told_none seat = told_of seat [] tt

pub spoken_whole : (says : ℕ → Seat → List ℕ) → SayLines says → (k : ℕ) (seats : List Seat) →
    IsWhole (spoken says k seats)
spoken_whole says whole k [] = whole_none
spoken_whole says whole k (seat ∷ rest) =
    whole_both (seat_lines k (says k seat)) (spoken says (k + 1) rest) (marked_whole k (says k seat) (whole k seat))
    (spoken_whole says whole (k + 1) rest)

told_first : (says : ℕ → Seat → List ℕ) → SayLines says → (s k : ℕ) (seat : Seat) (rest : List Seat)
    → told_to s (spoken says k (seat ∷ rest))
    ≡ told_to s (seat_lines k (says k seat)) ++ told_to s (spoken says (k + 1) rest)
told_first says whole s k seat rest =
    told_both s (seat_lines k (says k seat)) (spoken says (k + 1) rest) (marked_whole k (says k seat) (whole k seat))
    (spoken_whole says whole (k + 1) rest)

-- those behind the seat tell it nothing
silent : (says : ℕ → Seat → List ℕ) → SayLines says → (s k : ℕ) (seats : List Seat) → s < k → k + length seats ≤ 9
    → told_to s (spoken says k seats) ≡ []
silent says whole s k [] before few = told_none s
silent says whole s k (seat ∷ rest) before few =
    told_first says whole s k seat rest
    ∙ ap₂ (λ (a b : List ℕ). a ++ b)
    (told_other s k (says k seat) (omega (arith, before, few)) (omega (arith, few)) (λ e. omega (arith, e, before))
    (whole k seat))
    (silent says whole s (k + 1) rest (omega (arith, before)) (omega (arith, few)))

-- the seat at a place is told what it says
pub told_at : (says : ℕ → Seat → List ℕ) → SayLines says → (s k i : ℕ) (seats : List Seat) (x : Seat) → s ≡ k + i
    → k + length seats ≤ 9 → slice_get seats i ≡ Some x → told_to s (spoken says k seats) ≡ says s x
told_at says whole s k i [] x is few at = absurd (cc at)
told_at says whole s k zero (seat ∷ rest) x is few at =
    let here : k ≡ s = omega (arith, is) in
    let own : seat ≡ x = cc at in
    told_first says whole s k seat rest
    ∙ ap (λ (n : ℕ). told_to s (seat_lines n (says n seat)) ++ told_to s (spoken says (k + 1) rest)) here
    ∙ ap₂ (λ (a b : List ℕ). a ++ b) (told_same s (says s seat) (whole s seat))
    (silent says whole s (k + 1) rest (omega (arith, here)) (omega (arith, few)))
    ∙ append-nil (says s seat) ∙ ap (says s) own
told_at says whole s k (suc i) (seat ∷ rest) x is few at =
    told_first says whole s k seat rest
    ∙ ap₂ (λ (a b : List ℕ). a ++ b)
    (told_other s k (says k seat) (omega (arith, is, few, within (suc i) (seat ∷ rest) x at)) (omega (arith, few))
    (λ e. omega (arith, e, is)) (whole k seat))
    (told_at says whole s (k + 1) i rest x (omega (arith, is)) (omega (arith, few)) at)
  where
    within : (j : ℕ) (seats : List Seat) (y : Seat) → slice_get seats j ≡ Some y → j < length seats
    within j [] y e = absurd (cc e)
    within zero (seat ∷ rest) y e = omega arith
    within (suc j) (seat ∷ rest) y e = let more = within j rest y e in omega (arith, more)

-- ---- what a line makes them say

abbrev says_of : SeatLine → ℕ → Seat → List ℕ
says_of line k seat = if is_for line k then seat_said (line_in line) seat else []

line_whole : (line : SeatLine) → SayLines (says_of line)
line_whole line k seat = by (is_for line k)
  where
    by : (b : Bool) → IsWhole (if b then seat_said (line_in line) seat else [])
    by true = since_whole seat.limits.store (length seat.play.journal) (seat_after (line_in line) seat).play.journal
    by false = whole_none

said_spoken : (line : SeatLine) (k : ℕ) (seats : List Seat) → seats_said line k seats ≡ spoken (says_of line) k seats
said_spoken line k [] = refl
said_spoken line k (seat ∷ rest) = ap₂ (λ (a b : List ℕ). a ++ b) (by (is_for line k)) (said_spoken line (k + 1) rest)
  where
    by : (b : Bool) → (if b then seat_lines k (seat_said (line_in line) seat) else [])
        ≡ seat_lines k (if b then seat_said (line_in line) seat else [])
    by true = refl
    by false = refl

pub said_whole : (line : SeatLine) (seats : List Seat) → IsWhole (seats_said line 1 seats)
said_whole line seats =
    let w = spoken_whole (says_of line) (line_whole line) 1 seats in
    record { lines = w.lines; is = said_spoken line 1 seats ∙ w.is; lack = w.lack }

pub said_at : (line : SeatLine) (s i : ℕ) (seats : List Seat) (x : Seat) → s ≡ 1 + i → length seats ≤ 8
    → slice_get seats i ≡ Some x
    → told_to s (seats_said line 1 seats) ≡ (if is_for line s then seat_said (line_in line) x else [])
said_at line s i seats x is few at =
    ap (told_to s) (said_spoken line 1 seats)
    ∙ told_at (says_of line) (line_whole line) s 1 i seats x is (omega (arith, few)) at

pub after_at : (line : SeatLine) (s k i : ℕ) (seats : List Seat) (x : Seat) → s ≡ k + i → slice_get seats i ≡ Some x
    → slice_get (seats_after line k seats) i ≡ Some (if is_for line s then seat_after (line_in line) x else x)
after_at line s k i [] x is at = absurd (cc at)
after_at line s k zero (seat ∷ rest) x is at =
    let here : k ≡ s = omega (arith, is) in
    let own : seat ≡ x = cc at in
    ap₂ (λ (n : ℕ) (y : Seat). Some (if is_for line n then seat_after (line_in line) y else y)) here own
after_at line s k (suc i) (seat ∷ rest) x is at = after_at line s (k + 1) i rest x (omega (arith, is)) at

-- ---- their last lines

-- the last line of a replay of the seat's own session
abbrev pub own_ending : Option Kept → ℕ → List ℕ
own_ending None entries = end_line entries
own_ending (Some kept) entries = full_line kept.entries

abbrev ends_of : ℕ → Seat → List ℕ
ends_of k seat = own_ending seat.full (length seat.play.journal)

ends_whole : SayLines ends_of
ends_whole k seat = by seat.full
  where
    by : (full : Option Kept) → IsWhole (own_ending full (length seat.play.journal))
    by None = end_whole (length seat.play.journal)
    by (Some kept) = full_whole kept.entries

ending_marked : (k entries : ℕ) (full : Option Kept) →
    seat_ending k entries full ≡ seat_lines k (own_ending full entries)
ending_marked k entries None = end_marked k entries
ending_marked k entries (Some kept) = full_marked k kept.entries

endings_spoken : (k : ℕ) (seats : List Seat) → seats_endings k seats ≡ spoken ends_of k seats
endings_spoken k [] = refl
endings_spoken k (seat ∷ rest) =
    ap₂ (λ (a b : List ℕ). a ++ b) (ending_marked k (length seat.play.journal) seat.full) (endings_spoken (k + 1) rest)

pub endings_whole : (seats : List Seat) → IsWhole (seats_endings 1 seats)
endings_whole seats =
    let w = spoken_whole ends_of ends_whole 1 seats in
    record { lines = w.lines; is = endings_spoken 1 seats ∙ w.is; lack = w.lack }

pub endings_at : (s i : ℕ) (seats : List Seat) (x : Seat) → s ≡ 1 + i → length seats ≤ 8 → slice_get seats i ≡ Some x
    → told_to s (seats_endings 1 seats) ≡ own_ending x.full (length x.play.journal)
endings_at s i seats x is few at =
    ap (told_to s) (endings_spoken 1 seats) ∙ told_at ends_of ends_whole s 1 i seats x is (omega (arith, few)) at
