-- A line goes to one seat of several, or to all in turn.
use Rattle.std.proofs.Common.{◌≡◌, ℕ, zero, suc, ◌+◌, ◌<◌, ◌≤◌, Bool, true, false, eqb, List, [], ◌∷◌, ◌++◌, length, get_or, take, drop, refl, sym, ap, ap₂, ◌∙◌, append_assoc, append-nil, add-one, arith}
use Rattle.std.specs.Prelude.{if◌then◌else◌, replicate}
use Rattle.std.proofs.Math.ListN.{set}
use Rattle.std.proofs.Math.Seq.{drop-cons}
use Rattle.std.proofs.lemmas.Bool.Decides.{nat_tests}
use Rattle.std.proofs.lemmas.List.{take_more_set, drop-set-lt, take_all, drop_all}
use Rattle.session_text.specs.declared.line.SessionLine.{SessionLine}
use Rattle.session_text.specs.declared.seat_line.SeatLine.{SeatLine}
use Rattle.session_text.specs.declared.seat_line.SeatLine.TheVariants.{One, All}
use Rattle.lines_transcript.specs.Seats.{seat_lines}
use Rattle.seat_set.specs.Seats.{Seat, seat_after, seat_said, seats_after, seats_said}

-- ---- all seats

-- those before a place were given the line, and those from it on are given it
pub all_next : (line : SessionLine) (i : ℕ) (seats : List Seat) (x y d : Seat) (whole : List Seat) → i < length seats
    → x ≡ get_or seats i d → y ≡ seat_after line x
    → take i seats ++ seats_after (All line) (i + 1) (drop i seats) ≡ whole
    → take (i + 1) (set seats i y) ++ seats_after (All line) (i + 1 + 1) (drop (i + 1) (set seats i y)) ≡ whole
all_next line i seats x y d whole lt at is so =
    let behind : drop i seats ≡ x ∷ drop (i + 1) seats =
    drop-cons seats i d lt ∙ ap₂ (λ (s : Seat) (k : ℕ). s ∷ drop k seats) (sym at) (sym (add-one i)) in
    let rest : List Seat = seats_after (All line) (i + 1 + 1) (drop (i + 1) seats) in
    ap₂ (λ (a b : List Seat). a ++ seats_after (All line) (i + 1 + 1) b) (take_more_set seats i y lt)
    (drop-set-lt (i + 1) seats i y (omega arith))
    ∙ append_assoc (take i seats) (y ∷ []) rest
    ∙ ap (λ (s : Seat). take i seats ++ s ∷ rest) is
    ∙ sym (ap (λ (l : List Seat). take i seats ++ seats_after (All line) (i + 1) l) behind)
    ∙ so

pub all_said_next : (line : SessionLine) (i : ℕ) (seats : List Seat) (x y d : Seat) (text grown whole : List ℕ) →
    i < length seats
    → x ≡ get_or seats i d → grown ≡ text ++ seat_lines (i + 1) (seat_said line x)
    → text ++ seats_said (All line) (i + 1) (drop i seats) ≡ whole
    → grown ++ seats_said (All line) (i + 1 + 1) (drop (i + 1) (set seats i y)) ≡ whole
all_said_next line i seats x y d text grown whole lt at grew so =
    let behind : drop i seats ≡ x ∷ drop (i + 1) seats =
    drop-cons seats i d lt ∙ ap₂ (λ (s : Seat) (k : ℕ). s ∷ drop k seats) (sym at) (sym (add-one i)) in
    ap₂ (λ (t : List ℕ) (b : List Seat). t ++ seats_said (All line) (i + 1 + 1) b) grew
    (drop-set-lt (i + 1) seats i y (omega arith))
    ∙ append_assoc text (seat_lines (i + 1) (seat_said line x)) (seats_said (All line) (i + 1 + 1) (drop (i + 1) seats))
    ∙ sym (ap (λ (l : List Seat). text ++ seats_said (All line) (i + 1) l) behind)
    ∙ so

-- behind the last
pub all_done : (line : SessionLine) (i : ℕ) (seats whole : List Seat) → length seats ≤ i
    → take i seats ++ seats_after (All line) (i + 1) (drop i seats) ≡ whole → seats ≡ whole
all_done line i seats whole past so =
    sym (ap₂ (λ (a b : List Seat). a ++ seats_after (All line) (i + 1) b) (take_all i seats past)
    (drop_all i seats past)
    ∙ append-nil seats) ∙ so

pub all_said : (line : SessionLine) (i : ℕ) (seats : List Seat) (text whole : List ℕ) → length seats ≤ i
    → text ++ seats_said (All line) (i + 1) (drop i seats) ≡ whole → text ≡ whole
all_said line i seats text whole past so =
    sym (ap (λ (b : List Seat). text ++ seats_said (All line) (i + 1) b) (drop_all i seats past) ∙ append-nil text) ∙ so

-- ---- one seat

pub one_test : (s k : ℕ) → s ≡ k → eqb s k ≡ true
one_test s k e = grind (arith, nat_tests)

other_test : (s k : ℕ) → s < k → eqb s k ≡ false
other_test s k lt = grind (arith, nat_tests)

later_test : (s k : ℕ) → k < s → eqb s k ≡ false
later_test s k lt = grind (arith, nat_tests)

-- seats behind it stay, and say nothing
untouched : (s k : ℕ) (line : SessionLine) (seats : List Seat) → s < k → seats_after (One s line) k seats ≡ seats
untouched s k line [] lt = refl
untouched s k line (seat ∷ rest) lt =
    ap₂ (λ (b : Bool) (l : List Seat). (if b then seat_after line seat else seat) ∷ l) (other_test s k lt)
    (untouched s (k + 1) line rest (omega (arith, lt)))

silent : (s k : ℕ) (line : SessionLine) (seats : List Seat) → s < k → seats_said (One s line) k seats ≡ []
silent s k line [] lt = refl
silent s k line (seat ∷ rest) lt =
    ap₂ (λ (b : Bool) (l : List ℕ). (if b then seat_lines k (seat_said line seat) else []) ++ l) (other_test s k lt)
    (silent s (k + 1) line rest (omega (arith, lt)))

-- a line for the seat at a place
pub one_after : (s k i : ℕ) (line : SessionLine) (seats : List Seat) (x d : Seat) → s ≡ k + i → i < length seats
    → x ≡ get_or seats i d → seats_after (One s line) k seats ≡ set seats i (seat_after line x)
one_after s k i line [] x d is lt at = absurd (omega (arith, lt))
one_after s k zero line (seat ∷ rest) x d is lt at =
    ap₂ (λ (b : Bool) (l : List Seat). (if b then seat_after line seat else seat) ∷ l)
    (one_test s k (omega (arith, is)))
    (untouched s (k + 1) line rest (omega (arith, is)))
    ∙ ap (λ (y : Seat). seat_after line y ∷ rest) (sym at)
one_after s k (suc i) line (seat ∷ rest) x d is lt at =
    ap₂ (λ (b : Bool) (l : List Seat). (if b then seat_after line seat else seat) ∷ l)
    (later_test s k (omega (arith, is)))
    (one_after s (k + 1) i line rest x d (omega (arith, is)) (omega (arith, lt)) at)

pub one_said : (s k i : ℕ) (line : SessionLine) (seats : List Seat) (x d : Seat) → s ≡ k + i → i < length seats
    → x ≡ get_or seats i d → seats_said (One s line) k seats ≡ seat_lines s (seat_said line x)
one_said s k i line [] x d is lt at = absurd (omega (arith, lt))
one_said s k zero line (seat ∷ rest) x d is lt at =
    let here : k ≡ s = omega (arith, is) in
    ap₂ (λ (b : Bool) (l : List ℕ). (if b then seat_lines k (seat_said line seat) else []) ++ l)
    (one_test s k (omega (arith, is)))
    (silent s (k + 1) line rest (omega (arith, is)))
    ∙ append-nil (seat_lines k (seat_said line seat))
    ∙ ap₂ (λ (n : ℕ) (y : Seat). seat_lines n (seat_said line y)) here (sym at)
one_said s k (suc i) line (seat ∷ rest) x d is lt at =
    ap₂ (λ (b : Bool) (l : List ℕ). (if b then seat_lines k (seat_said line seat) else []) ++ l)
    (later_test s k (omega (arith, is)))
    (one_said s (k + 1) i line rest x d (omega (arith, is)) (omega (arith, lt)) at)

-- ---- as many as before

pub same_count : (line : SeatLine) (k : ℕ) (seats : List Seat) → length (seats_after line k seats) ≡ length seats
same_count line k [] = refl
same_count line k (seat ∷ rest) = ap suc (same_count line (k + 1) rest)

-- one seat more of a new set
pub one_more : (n : ℕ) (x : Seat) → replicate n x ++ x ∷ [] ≡ replicate (n + 1) x
one_more n x = more n ∙ ap (λ k. replicate k x) (sym (add-one n))
  where
    more : (n : ℕ) → replicate n x ++ x ∷ [] ≡ replicate (suc n) x
    more zero = refl
    more (suc n) = ap (λ (l : List Seat). x ∷ l) (more n)
