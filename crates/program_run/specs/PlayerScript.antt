-- A player of a session, by the lines that it played and the output that it came to.
use Rattle.std.specs.Prelude.{◌≡◌, ℕ, Bool, false, List, [], ◌++◌, length, None}
use Rattle.broker_steps.specs.declared.limits.Limits.{Limits}
use Rattle.broker_model.specs.declared.journal.Entry.{Entry}
use Rattle.lines_transcript.specs.Printed.{Printing, MayPrint, blank}
use Rattle.lines_transcript.specs.Transcribed.{journal_text}
use Rattle.seat_set.specs.Playing.{Playing, IsWatched}
use Rattle.program_run.specs.declared.session_line.Stage.{Stage}
use Rattle.program_run.specs.Session.{unplayed, session_from, session_of_lines}

-- a player that played nothing
abbrev pub fresh : Limits → Playing
fresh limits =
    record {
      limits = limits;
      play = unplayed;
      stamps = [];
      kept_from = 0;
      is_spent = false;
      stopped = None;
    }

-- the transcript of what a player played is the output so far, and stands before every answer for
-- these lines and others, of which the next is read at this stage
pub record PlayerStands (stage : Stage) (player : Playing) (before : ℕ) (done : List (List ℕ))
    (output : List ℕ) :
    Type 0 where
  pub unspent : player.is_spent ≡ false
  pub count : before ≡ length done
  pub said : output ≡ journal_text player.limits.store player.play.journal
  pub goes_on : (cut : Bool) (more : List (List ℕ))
      → session_of_lines cut (done ++ more)
      ≡ session_from player.limits cut before stage player.play more

-- a printer watched each entry that the journal has more than what was written
abbrev pub Gathers : ℕ → List Entry → List Entry → Printing → Type 0
Gathers store written journal printer = IsWatched MayPrint store written blank journal printer

-- what a player played since its journal was this, the printer has gathered
pub record PlayerHolds (player : Playing) (printer : Printing) (gathered : List ℕ) : Type 0 where
  pub written : List Entry
  pub watched : Gathers player.limits.store written player.play.journal printer
  pub text : journal_text player.limits.store player.play.journal
      ≡ journal_text player.limits.store written ++ gathered
