-- What a line leaves that found no memory.
use Rattle.std.specs.Prelude.{◌≡◌, ℕ, ◌+◌, List, Bool, true, false, Some, is_some}
use Rattle.std.specs.List.{slice_get}
use Rattle.session_text.specs.declared.line.SessionLine.{SessionLine}
use Rattle.session_text.specs.declared.seat_line.SeatLine.{SeatLine}
use Rattle.seat_set.specs.Playing.{IsMore}
use Rattle.seat_set.specs.Seats.{Seat, seat_after, is_for, line_in}

-- of a line that found no memory: a front of what it plays was played. The seat is full only if it
-- was all played and met a full journal, and one that was full before stays
pub record IsBegun (line : SessionLine) (before after : Seat) : Type 0 where
  pub limits : after.limits ≡ before.limits
  pub grew : IsMore before.play.journal after.play.journal
  pub front : IsMore after.play.journal (seat_after line before).play.journal
  pub full : is_some after.full ≡ true → after ≡ seat_after line before
  pub stays : is_some before.full ≡ true → after ≡ before

-- so on a seat that is given the line, and one that isn't is as it was
abbrev pub IsBegunIf : (is_given : Bool) → SessionLine → (before after : Seat) → Type 0
IsBegunIf true line before after = IsBegun line before after
IsBegunIf false line before after = after ≡ before

-- so on each of the seats, which are numbered from 1
abbrev pub AreBegun : SeatLine → (before after : List Seat) → Type 0
AreBegun line before after =
    (k : ℕ) (b a : Seat) → slice_get before k ≡ Some b → slice_get after k ≡ Some a →
    IsBegunIf (is_for line (k + 1)) (line_in line) b a
