-- The seats of a set, one after the other.
use Rattle.std.proofs.Common.{◌≡◌, ℕ, zero, suc, ◌+◌, ◌-◌, ◌<◌, ◌≤◌, Bool, true, false, List, [], ◌∷◌, ◌++◌, length, drop, Option, Some, refl, sym, ap, subst, ◌∙◌, append_assoc, append-nil, add-one, arith}
use Rattle.std.specs.Prelude.{◌||◌, is_some, IfSome}
use Rattle.std.specs.List.{slice_get}
use Rattle.std.proofs.lemmas.List.{drop_all}
use Rattle.broker_model.specs.declared.journal.Kept.{Kept}
use Rattle.seat_set.specs.Seats.{Seat}
use Rattle.program_run.specs.Seats.{seat_ending, seats_endings, some_full}

-- the seat at a place, and those behind it
pub record IsAt (i : ℕ) (seats : List Seat) : Type 0 where
  pub seat : Seat
  pub get : slice_get seats i ≡ Some seat
  pub behind : drop i seats ≡ seat ∷ drop (suc i) seats

at_place : (i : ℕ) (seats : List Seat) → i < length seats → IsAt i seats
at_place i [] lt = absurd (omega (arith, lt))
at_place zero (seat ∷ rest) lt = record { seat = seat; get = refl; behind = refl }
at_place (suc i) (seat ∷ rest) lt =
    let r = at_place i rest (omega (arith, lt)) in
    record { seat = r.seat; get = r.get; behind = r.behind }

-- what is said of the seat with the number after a place is said of it
told : (i : ℕ) (seats : List Seat) (P : Seat → Type 0) → (at : IsAt i seats) → IfSome (slice_get seats (i + 1 - 1)) P →
    P at.seat
told i seats P at h =
    let same : i + 1 - 1 ≡ i = omega arith in
    subst (λ (o : Option Seat). IfSome o P) (ap (slice_get seats) same ∙ at.get) h

next : (i : ℕ) (seats : List Seat) → (at : IsAt i seats) → drop i seats ≡ at.seat ∷ drop (i + 1) seats
next i seats at = at.behind ∙ ap (λ (k : ℕ). at.seat ∷ drop k seats) (sym (add-one i))

-- ---- whether one is full

pub full_here : (i : ℕ) (seats : List Seat) (full : Option Kept) → i < length seats
    → IfSome (slice_get seats (i + 1 - 1)) (λ s. full ≡ s.full) → is_some full ≡ true → some_full (drop i seats) ≡ true
full_here i seats full lt is test =
    let at = at_place i seats lt in
    let same = told i seats (λ s. full ≡ s.full) at is in
    ap some_full (next i seats at)
    ∙ ap (λ (b : Bool). b || some_full (drop (i + 1) seats)) (ap (λ (o : Option Kept). is_some o) (sym same) ∙ test)

pub none_here : (i : ℕ) (seats : List Seat) (full : Option Kept) → i < length seats
    → IfSome (slice_get seats (i + 1 - 1)) (λ s. full ≡ s.full) → is_some full ≡ false
    → some_full (drop i seats) ≡ some_full (drop (i + 1) seats)
none_here i seats full lt is test =
    let at = at_place i seats lt in
    let same = told i seats (λ s. full ≡ s.full) at is in
    ap some_full (next i seats at)
    ∙ ap (λ (b : Bool). b || some_full (drop (i + 1) seats)) (ap (λ (o : Option Kept). is_some o) (sym same) ∙ test)

pub none_left : (i : ℕ) (seats : List Seat) → length seats ≤ i → some_full (drop i seats) ≡ false
none_left i seats past = ap some_full (drop_all i seats past)

-- ---- their last lines

pub ending_next : (i entries : ℕ) (seats : List Seat) (full : Option Kept) (text grown whole : List ℕ) →
    i < length seats
    → IfSome (slice_get seats (i + 1 - 1)) (λ s. full ≡ s.full)
    → IfSome (slice_get seats (i + 1 - 1)) (λ s. entries ≡ length s.play.journal)
    → grown ≡ text ++ seat_ending (i + 1) entries full
    → text ++ seats_endings (i + 1) (drop i seats) ≡ whole
    → grown ++ seats_endings (i + 1 + 1) (drop (i + 1) seats) ≡ whole
ending_next i entries seats full text grown whole lt is count grew so =
    let at = at_place i seats lt in
    let same = told i seats (λ s. full ≡ s.full) at is in
    let many = told i seats (λ s. entries ≡ length s.play.journal) at count in
    let rest : List ℕ = seats_endings (i + 1 + 1) (drop (i + 1) seats) in
    ap (λ (t : List ℕ). t ++ rest) grew
    ∙ append_assoc text (seat_ending (i + 1) entries full) rest
    ∙ ap (λ (n : ℕ). text ++ (seat_ending (i + 1) n full ++ rest)) many
    ∙ ap (λ (o : Option Kept). text ++ (seat_ending (i + 1) (length at.seat.play.journal) o ++ rest)) same
    ∙ sym (ap (λ (l : List Seat). text ++ seats_endings (i + 1) l) (next i seats at))
    ∙ so

pub endings_done : (i : ℕ) (seats : List Seat) (text whole : List ℕ) → length seats ≤ i
    → text ++ seats_endings (i + 1) (drop i seats) ≡ whole → text ≡ whole
endings_done i seats text whole past so =
    sym (ap (λ (l : List Seat). text ++ seats_endings (i + 1) l) (drop_all i seats past) ∙ append-nil text) ∙ so
