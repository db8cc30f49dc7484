-- The journal of a session is one that a program can hold.
use Rattle.std.specs.Prelude.{◌≡◌, ℕ, ◌^◌, ◌<◌, List, length, Some}
use Rattle.std.specs.List.{AllByRecursion}
use Rattle.broker_steps.specs.declared.limits.Limits.{Limits}
use Rattle.broker_steps.specs.Ranges.{IsLimits}
use Rattle.session_text.specs.declared.line.SessionLine.{SessionLine}
use Rattle.session_text.specs.SessionGrammar.{HasStampedLine}
use Rattle.broker_model.specs.declared.journal.Entry.{Entry}
use Rattle.broker_telling.specs.Sayable.{AreHeld}
use Rattle.broker_telling.specs.Streams.{IsReadStream}
use Rattle.seat_set.specs.Laws.{lines_played}
use Rattle.program_run.specs.declared.session_line.Opening.{Opening}
use Rattle.program_run.specs.Session.{first_stage, opening_of, unplayed}
use Rattle.program_run.specs.Replayed.{session_lines}

-- a program can hold its entries, and they are fewer than 2^32
pub record IsHeldJournal (journal : List Entry) : Type 0 where
  pub held : AreHeld journal
  pub few : length journal < 2 ^ 32

-- such is what lines play that are in their grammar, within limits that a session can set
abbrev pub LinesAreHeld : Type 0
LinesAreHeld =
    (limits : Limits) (lines : List SessionLine) → IsLimits limits →
    AllByRecursion HasStampedLine lines →
    IsHeldJournal (lines_played limits lines unplayed).play.journal

-- and so the journal of each session whose first line is a header
abbrev pub SessionsAreHeld : Type 0
SessionsAreHeld =
    (opening : Opening) (first : List ℕ) (more : List (List ℕ)) →
    opening_of first ≡ Some opening →
    IsHeldJournal (lines_played opening.limits
    (session_lines (first_stage opening.form) more) unplayed).play.journal

-- and what it puts for any peer is read in turn as what it tells the peer
abbrev pub SessionsAreRead : Type 0
SessionsAreRead =
    (opening : Opening) (first : List ℕ) (more : List (List ℕ)) (p : ℕ) →
    opening_of first ≡ Some opening →
    IsReadStream opening.limits.store
    (lines_played opening.limits
    (session_lines (first_stage opening.form) more) unplayed).play.journal
    p
