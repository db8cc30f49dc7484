-- What one line more makes of several seats.
use Rattle.std.proofs.Common.{◌≡◌, ℕ, ◌+◌, ◌^◌, ◌<◌, ◌≤◌, Bool, true, false, leb, List, [], ◌∷◌, ◌++◌, length, Option, Some, None, Result, Ok, Err, refl, sym, ap, ap₂, subst, ◌∙◌, arith, append_assoc, append-nil, length-append}
use Rattle.std.specs.Prelude.{if◌then◌else◌, IfOk}
use Rattle.std.proofs.lemmas.Bool.{lt-leb}
use Rattle.std.proofs.lemmas.List.{length-replicate}
use Rattle.session_text.specs.declared.seat_line.SeatLine.{SeatLine}
use Rattle.session_text.specs.declared.seat_line.SeatsHeader.{SeatsHeader}
use Rattle.session_text.specs.declared.seat_line.SeatsLine.{SeatsLine}
use Rattle.session_text.specs.declared.seat_line.SeatsLine.TheVariants as said
use Rattle.session_text.specs.Reading.{line_limit}
use Rattle.session_text.specs.SeatLines.{seats_header_of, seats_line_of}
use Rattle.seat_set.specs.Seats.{Seat, Seats, fresh, seats_after, seats_said}
use Rattle.seat_set.proofs.SeatsInTurn.{same_count}
use Rattle.program_run.specs.declared.last_line.LastLine.{LastLine}
use Rattle.program_run.specs.declared.last_line.LastLine.TheVariants as last
use Rattle.program_run.specs.declared.seats.SeatsPlay.{SeatsPlay}
use Rattle.program_run.specs.Endings.{Answer, with_front, ending, is_long}
use Rattle.program_run.specs.Scripts.{Follows, Settles, NamesNext, Played}
use Rattle.program_run.specs.Seats.{by_seats_header, by_seats_line, fresh_seats, seats_endings, seats_from, seats_last, seats_of_lines, some_full}
use Rattle.program_run.specs.SeatsPlayed.{IsSeatsLinePlayed}
use Rattle.program_run.specs.SeatsScript.{IsOpened, left_for, SeatsStand, seats_text}
use Rattle.program_run.proofs.ActListAnswers.{front_of_front}

-- by what the line reads as
step : (play : SeatsPlay) (set : Seats) (done : List (List ℕ)) (output raw : List ℕ) (o : Option SeatsLine)
    → SeatsStand play done output → play.set ≡ Some set → o ≡ seats_line_of (length set.seats) raw
    → (cut : Bool) (more : List (List ℕ))
    → seats_of_lines cut ((done ++ raw ∷ []) ++ more) ≡ with_front output (by_seats_line play.before set.seats o
    (λ next. seats_from cut (play.before + 1) next more))
unfolding seats_from
step play set done output raw o s begun is cut more =
    ap (seats_of_lines cut) (append_assoc done (raw ∷ []) more) ∙ s.goes_on cut (raw ∷ more)
    ∙ ap (λ (t : Option Seats). with_front output (left_for t cut play.before (raw ∷ more))) begun
    ∙ ap (λ w. with_front output
    (by_seats_line play.before set.seats w (λ next. seats_from cut (play.before + 1) next more))) (sym is)

last_decides : (seats : List Seat) (b : Bool) → is_long (ending (if b then last.OverFull else last.Over)).1 ≡ false
last_decides seats true = refl
last_decides seats false = refl

one_more : (done : List (List ℕ)) (raw : List ℕ) → length (done ++ raw ∷ []) ≡ length done + 1
one_more done raw = length-append done (raw ∷ [])

-- a line that ends the output, with the seats' last lines or none before it
settles : (play : SeatsPlay) (set : Seats) (done : List (List ℕ)) (output raw more : List ℕ) (o : Option SeatsLine)
    (end : LastLine)
    → SeatsStand play done output → play.set ≡ Some set → o ≡ seats_line_of (length set.seats) raw
    → ((rest : List Seat → Answer) → by_seats_line play.before set.seats o rest ≡ with_front more (ending end))
    → is_long (ending end).1 ≡ false
    → Settles seats_of_lines (done ++ raw ∷ []) (with_front (output ++ more) (ending end))
settles play set done output raw more o end s begun is ends other = record {
  same = λ cut lines.
      step play set done output raw o s begun is cut lines
      ∙ ap (with_front output) (ends (λ next. seats_from cut (play.before + 1) next lines))
      ∙ front_of_front output more (ending end);
  decides = other;
}

goes_on : (play after : SeatsPlay) (set set' : Seats) (done : List (List ℕ)) (output raw : List ℕ) (line : SeatLine)
    → SeatsStand play done output → play.set ≡ Some set → Some (said.Seat line) ≡ seats_line_of (length set.seats) raw
    → set'.seats ≡ seats_after line 1 set.seats → after.set ≡ Some set' → after.before ≡ play.before + 1
    → (cut : Bool) (more : List (List ℕ))
    → seats_of_lines cut ((done ++ raw ∷ []) ++ more) ≡ with_front (output ++ seats_said line 1 set.seats)
    (left_for after.set cut after.before more)
goes_on play after set set' done output raw line s begun is went still next cut more =
    step play set done output raw (Some (said.Seat line)) s begun is cut more
    ∙ front_of_front output (seats_said line 1 set.seats)
    (seats_from cut (play.before + 1) (seats_after line 1 set.seats) more)
    ∙ ap₂ (λ (n : ℕ) (seats : List Seat). with_front (output ++ seats_said line 1 set.seats)
    (seats_from cut n seats more)) (sym next) (sym went)
    ∙ ap (λ (t : Option Seats). with_front (output ++ seats_said line 1 set.seats) (left_for t cut after.before more))
    (sym still)

opened : (play : SeatsPlay) (set : Seats) (done : List (List ℕ)) (output : List ℕ) → SeatsStand play done output →
    play.set ≡ Some set
    → length set.seats ≤ 8
opened play set done output s begun = subst (λ (t : Option Seats). IsOpened t play.before) begun s.opened

-- the seats after a line stand for its lines too
stands : (play after : SeatsPlay) (set set' : Seats) (done : List (List ℕ)) (output raw : List ℕ) (line : SeatLine)
    → SeatsStand play done output → play.set ≡ Some set → Some (said.Seat line) ≡ seats_line_of (length set.seats) raw
    → set'.seats ≡ seats_after line 1 set.seats → after.set ≡ Some set' → after.before ≡ play.before + 1
    → SeatsStand after (done ++ raw ∷ []) (output ++ seats_said line 1 set.seats)
stands play after set set' done output raw line s begun is went still next =
    let few = opened play set done output s begun in
    let long : length set'.seats ≤ 8 =
    omega (arith, few, ap (λ (l : List Seat). length l) went, same_count line 1 set.seats) in
    record {
      count = next ∙ ap (λ k. k + 1) s.count ∙ sym (one_more done raw);
      opened = subst (λ (t : Option Seats). IsOpened t after.before) (sym still) long;
      goes_on = goes_on play after set set' done output raw line s begun is went still next;
    }

-- no line of these decided
pub follows : (play : SeatsPlay) (set : Seats) (done : List (List ℕ)) (output : List ℕ) → SeatsStand play done output →
    play.set ≡ Some set
    → Follows seats_of_lines done output
unfolding seats_from
follows play set done output s begun = record {
  begins = λ cut more. (left_for play.set cut play.before more, s.goes_on cut more);
  undecided = ap (seats_of_lines true) (sym (append-nil done)) ∙ s.goes_on true []
      ∙ ap (λ (t : Option Seats). with_front output (left_for t true play.before [])) begun;
}

-- a line after the header
pub line_told : (play after : SeatsPlay) (set set' : Seats) (done : List (List ℕ)) (raw output gathered : List ℕ)
    (o : Option SeatsLine) (end : Option LastLine) → SeatsStand play done output → play.set ≡ Some set
    → o ≡ seats_line_of (length set.seats) raw
    → IsSeatsLinePlayed play.before o set.seats set'.seats (seats_text play) (seats_text after) end
    → after.set ≡ Some set' → after.before ≡ play.before + 1 → seats_text play ≡ gathered
    → Played seats_of_lines (SeatsStand after) (λ g. seats_text after ≡ g) done raw output gathered end
line_told play after set set' done raw output gathered None end s begun is played still next held =
    subst (Played seats_of_lines (SeatsStand after) (λ g. seats_text after ≡ g) done raw output gathered)
    (sym played.0) (
      [],
      played.2 ∙ held ∙ sym (append-nil gathered),
      settles play set done output raw [] None (last.Bad (play.before + 1)) s begun is (λ rest. refl) refl,
    )
line_told play after set set' done raw output gathered (Some said.End) end s begun is played still next held =
    subst (Played seats_of_lines (SeatsStand after) (λ g. seats_text after ≡ g) done raw output gathered)
    (sym played.0) (
      seats_endings 1 set.seats,
      played.2 ∙ ap (λ (t : List ℕ). t ++ seats_endings 1 set.seats) held,
      settles play set done output raw (seats_endings 1 set.seats) (Some said.End) (seats_last set.seats) s begun is
          (λ rest. refl)
          (last_decides set.seats (some_full set.seats)),
    )
line_told play after set set' done raw output gathered (Some (said.Seat line)) end s begun is played still next held =
    let on = stands play after set set' done output raw line s begun is played.1 still next in
    subst (Played seats_of_lines (SeatsStand after) (λ g. seats_text after ≡ g) done raw output gathered)
    (sym played.0) (
      seats_said line 1 set.seats,
      on,
      played.2 ∙ ap (λ (t : List ℕ). t ++ seats_said line 1 set.seats) held,
      follows after set' (done ++ raw ∷ []) (output ++ seats_said line 1 set.seats) on still,
    )

-- the same of a call that may have found no memory
pub line_told_if : {E : Type 0} (play after : SeatsPlay) (set set' : Seats) (done : List (List ℕ))
    (raw output gathered : List ℕ)
    (r : Result (Option LastLine) E) → SeatsStand play done output → play.set ≡ Some set → play.before < 2 ^ 63
    → (play.before < 2 ^ 63 →
    IfOk r (IsSeatsLinePlayed play.before (seats_line_of (length set.seats) raw) set.seats set'.seats
    (seats_text play) (seats_text after)))
    → after.set ≡ Some set' → after.before ≡ play.before + 1 → seats_text play ≡ gathered
    → IfOk r (Played seats_of_lines (SeatsStand after) (λ g. seats_text after ≡ g) done raw output gathered)
line_told_if play after set set' done raw output gathered (Ok end) s begun few played still next held =
    line_told play after set set' done raw output gathered (seats_line_of (length set.seats) raw) end s begun refl
    (played few) still next held
line_told_if play after set set' done raw output gathered (Err e) s begun few played still next held = tt

-- ---- the first line

first_goes : (play : SeatsPlay) (done : List (List ℕ)) (output raw : List ℕ) (o : Option SeatsHeader) →
    SeatsStand play done output
    → play.set ≡ None → o ≡ seats_header_of raw → (cut : Bool) (more : List (List ℕ))
    → seats_of_lines cut ((done ++ raw ∷ []) ++ more) ≡ with_front output (by_seats_header cut o more)
first_goes play done output raw o s none is cut more =
    ap (seats_of_lines cut) (append_assoc done (raw ∷ []) more) ∙ s.goes_on cut (raw ∷ more)
    ∙ ap (λ (t : Option Seats). with_front output (left_for t cut play.before (raw ∷ more))) none
    ∙ ap (λ w. with_front output (by_seats_header cut w more)) (sym is)

none_before : (play : SeatsPlay) (done : List (List ℕ)) (output : List ℕ) → SeatsStand play done output →
    play.set ≡ None → play.before ≡ 0
none_before play done output s none = subst (λ (t : Option Seats). IsOpened t play.before) none s.opened

pub header_told : (play after : SeatsPlay) (set : Seats) (done : List (List ℕ)) (raw output gathered : List ℕ)
    (header : SeatsHeader)
    → SeatsStand play done output → play.set ≡ None → Some header ≡ seats_header_of raw
    → set ≡ record { seats = fresh_seats header; is_spent = false } → header.count ≤ 8
    → after.set ≡ Some set → after.before ≡ play.before + 1 → seats_text after ≡ seats_text play →
    seats_text play ≡ gathered
    → Played seats_of_lines (SeatsStand after) (λ g. seats_text after ≡ g) done raw output gathered None
header_told play after set done raw output gathered header s none is made few still next text held =
    let one : after.before ≡ 1 = next ∙ ap (λ n. n + 1) (none_before play done output s none) in
    let seats : set.seats ≡ fresh_seats header = ap (λ (t : Seats). t.seats) made in
    let on : SeatsStand after (done ++ raw ∷ []) (output ++ []) = record {
      count = next ∙ ap (λ k. k + 1) s.count ∙ sym (one_more done raw);
      opened = subst (λ (t : Option Seats). IsOpened t after.before) (sym still)
          (subst (λ (l : List Seat). length l ≤ 8) (sym seats)
          (subst (λ (n : ℕ). n ≤ 8) (sym (length-replicate header.count (fresh header.limits))) few));
      goes_on = λ cut more.
          first_goes play done output raw (Some header) s none is cut more
          ∙ ap (λ (t : List ℕ). with_front t (seats_from cut 1 (fresh_seats header) more)) (sym (append-nil output))
          ∙ ap₂ (λ (n : ℕ) (l : List Seat). with_front (output ++ []) (seats_from cut n l more)) (sym one) (sym seats)
          ∙ ap (λ (t : Option Seats). with_front (output ++ []) (left_for t cut after.before more)) (sym still);
    } in
    ([], on, text ∙ held ∙ sym (append-nil gathered), follows after set (done ++ raw ∷ []) (output ++ []) on still)

pub no_header : (play : SeatsPlay) (done : List (List ℕ)) (output raw : List ℕ) → SeatsStand play done output →
    play.set ≡ None
    → None ≡ seats_header_of raw → Settles seats_of_lines (done ++ raw ∷ []) (with_front output (ending (last.Bad 1)))
no_header play done output raw s none is =
    record { same = λ cut more. first_goes play done output raw None s none is cut more; decides = refl }

pub bad_header : (play after : SeatsPlay) (done : List (List ℕ)) (raw output gathered : List ℕ) →
    SeatsStand play done output
    → play.set ≡ None → None ≡ seats_header_of raw → seats_text after ≡ seats_text play → seats_text play ≡ gathered
    → Played seats_of_lines (SeatsStand after) (λ g. seats_text after ≡ g) done raw output gathered (Some (last.Bad 1))
bad_header play after done raw output gathered s none is text held = (
  [],
  text ∙ held ∙ sym (append-nil gathered),
  subst (λ (t : List ℕ). Settles seats_of_lines (done ++ raw ∷ []) (with_front t (ending (last.Bad 1))))
      (sym (append-nil output))
      (no_header play done output raw s none is),
)

-- ---- lines of more bytes than a line may have are none

long_is_none : (count : ℕ) (raw : List ℕ) → line_limit < length raw → seats_line_of count raw ≡ None
unfolding seats_line_of
long_is_none count raw long = let test : leb (length raw) 8400 ≡ false = lt-leb (length raw) 8400 long in rw test refl

long_is_no_header : (raw : List ℕ) → line_limit < length raw → seats_header_of raw ≡ None
unfolding seats_header_of
long_is_no_header raw long = let test : leb (length raw) 8400 ≡ false = lt-leb (length raw) 8400 long in rw test refl

-- how the output ends behind these lines
names_by : (play : SeatsPlay) (o : Option Seats) (done : List (List ℕ)) (output : List ℕ) (next : ℕ) → play.set ≡ o
    → SeatsStand play done output → next ≡ play.before + 1 → NamesNext seats_of_lines done output (last.Bad next)
unfolding seats_from
names_by play (Some set) done output next begun s is = record {
  missing = ap (seats_of_lines false) (sym (append-nil done)) ∙ s.goes_on false []
      ∙ ap (λ (t : Option Seats). with_front output (left_for t false play.before [])) begun
      ∙ ap (λ n. with_front output (ending (last.Bad n))) (sym is);
  long = λ raw wide.
      subst (λ (n : ℕ). Settles seats_of_lines (done ++ raw ∷ []) (with_front output (ending (last.Bad n)))) (sym is)
      (subst (λ (t : List ℕ). Settles seats_of_lines (done ++ raw ∷ [])
      (with_front t (ending (last.Bad (play.before + 1))))) (append-nil output)
      (settles play set done output raw [] None (last.Bad (play.before + 1)) s begun
      (sym (long_is_none (length set.seats) raw wide)) (λ rest. refl) refl));
}
names_by play None done output next none s is =
    let one : 1 ≡ next = sym (is ∙ ap (λ n. n + 1) (none_before play done output s none)) in
    record {
      missing = ap (seats_of_lines false) (sym (append-nil done)) ∙ s.goes_on false []
          ∙ ap (λ (t : Option Seats). with_front output (left_for t false play.before [])) none
          ∙ ap (λ n. with_front output (ending (last.Bad n))) one;
      long = λ raw wide. subst
          (λ (n : ℕ). Settles seats_of_lines (done ++ raw ∷ []) (with_front output (ending (last.Bad n)))) one
          (no_header play done output raw s none (sym (long_is_no_header raw wide)));
    }

pub names_next : (play : SeatsPlay) (done : List (List ℕ)) (output : List ℕ) (next : ℕ) → SeatsStand play done output
    → next ≡ play.before + 1 → NamesNext seats_of_lines done output (last.Bad next)
names_next play done output next s is = names_by play play.set done output next refl s is

-- before any line
pub seats_begin : Follows seats_of_lines [] []
seats_begin = record { begins = λ cut more. (seats_of_lines cut more, refl); undecided = refl }
