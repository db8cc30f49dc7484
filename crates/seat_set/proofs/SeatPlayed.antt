-- A seat that is full stays, and its transcript has nothing more.
use Rattle.std.proofs.Common.{◌≡◌, ℕ, suc, Bool, true, List, [], ◌∷◌, ◌++◌, length, refl, sym, ap, ◌∙◌, arith}
use Rattle.std.specs.Prelude.{if◌then◌else◌, is_some}
use Rattle.std.proofs.lemmas.Bool.{lt-leb}
use Rattle.session_text.specs.declared.line.SessionLine.{SessionLine}
use Rattle.lines_transcript.specs.Seats.{seat_lines}
use Rattle.broker_model.specs.declared.journal.Entry.{Entry}
use Rattle.lines_transcript.specs.Transcribed.{entry_text, text_since}
use Rattle.seat_set.specs.Played.{line_played}
use Rattle.seat_set.specs.Seats.{Seat, seat_by, seat_after, seat_said}

-- a seat that is full stays, and its transcript has nothing more

pub stays_full : (line : SessionLine) (seat : Seat) → is_some seat.full ≡ true → seat ≡ seat_after line seat
stays_full line seat full =
    sym (ap (λ (b : Bool). (if b then seat else seat_by seat.limits (line_played seat.limits line seat.play))) full)

pub none_since : (capacity : ℕ) (journal : List Entry) → text_since capacity (length journal) journal ≡ []
none_since capacity [] = refl
none_since capacity (e ∷ older) =
    ap (λ (b : Bool). (if b then text_since capacity (suc (length older)) older ++ entry_text capacity e older else []))
    (lt-leb (suc (length older)) (length older) (omega arith))

pub says_nothing : (number : ℕ) (line : SessionLine) (seat : Seat) → is_some seat.full ≡ true
    → seat_lines number (seat_said line seat) ≡ []
says_nothing number line seat full =
    ap (λ (s : Seat). seat_lines number (text_since seat.limits.store (length seat.play.journal) s.play.journal))
    (sym (stays_full line seat full))
    ∙ ap (seat_lines number) (none_since seat.limits.store seat.play.journal)
