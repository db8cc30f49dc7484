-- The laws of a recorded session: it is read, and replays to its journal.
use Rattle.std.specs.Prelude.{◌≡◌, ℕ, false, List, [], ◌∷◌, ◌++◌, length, map, reverse}
use Rattle.std.specs.List.{AllByRecursion}
use Rattle.broker_steps.specs.declared.limits.Limits.{Limits}
use Rattle.broker_steps.specs.declared.stamp.Stamp.{Stamp}
use Rattle.broker_steps.specs.declared.step.Step.{Step}
use Rattle.session_text.specs.declared.line.SessionLine.{SessionLine}
use Rattle.session_text.specs.Steps.{step_line}
use Rattle.broker_model.specs.declared.journal.Entry.{Entry}
use Rattle.broker_model.specs.Stamps.{stamps}
use Rattle.seat_set.specs.Transcribed.{journal_text}
use Rattle.seat_set.specs.Played.{Waiting, Played}
use Rattle.seat_set.specs.Laws.{lines_played, unplayed}
use Rattle.serve_record.specs.Recorded.{recorded}
use Rattle.program_run.specs.declared.status.Status.TheVariants as status
use Rattle.program_run.specs.Endings.{end_line}
use Rattle.program_run.specs.Run.{status_of, output_of}
use Rattle.program_run.specs.Migrates.{replay}
use Rattle.law_record.specs.Legal.{journal_of, IsLegalSession}
use Rattle.law_record.specs.RecordedLines.{StampedLine, lines_in, played_lines, IsReadAs}

-- the stamps of the journal of steps, for those that their calls gave
abbrev pub stamps_of : Limits → List Step → List Stamp → List Stamp
stamps_of limits steps given = stamps (journal_of limits steps) given

-- the lines of the recorded session of steps
abbrev pub lines_of_steps : Limits → List Step → List Stamp → List StampedLine
lines_of_steps limits steps given =
    lines_in (journal_of limits steps) (stamps_of limits steps given)

-- its text
abbrev pub text_of_steps : Limits → List Step → List Stamp → List ℕ
text_of_steps limits steps given =
    recorded limits (journal_of limits steps) (stamps_of limits steps given)

-- the lines of steps, the oldest first
abbrev pub step_lines : List Step → List SessionLine
step_lines [] = []
step_lines (step ∷ older) = step_lines older ++ step_line step ∷ []

-- the lines of a recorded session are those of its steps, one each: the ends that follow have none
abbrev pub RecordedHasStepLines : Type 0
RecordedHasStepLines =
    (limits : Limits) (steps : List Step) (given : List Stamp) →
    played_lines (lines_of_steps limits steps given) ≡ step_lines steps

-- each recorded session is read as the lines of its steps
abbrev pub RecordedIsRead : Type 0
RecordedIsRead =
    (limits : Limits) (steps : List Step) (given : List Stamp) → IsLegalSession limits steps given →
    IsReadAs limits (text_of_steps limits steps given) (lines_of_steps limits steps given)

-- the peer has no unread bytes
abbrev pub IsRead : Waiting → Type 0
IsRead w = w.bytes ≡ []

-- no line met a full journal, the journal is this, and nothing is unread
pub record IsAt (p : Played) (journal : List Entry) : Type 0 where
  pub goes : p.is_full ≡ false
  pub is : p.play.journal ≡ journal
  pub read : AllByRecursion IsRead p.play.unread

-- the stamps of the lines, the newest first, as a replay gives them with its steps
abbrev pub stamps_read : List StampedLine → List Stamp
stamps_read all = reverse (map (λ (l : StampedLine). l.0) all)

-- The lines of a journal with these stamps, played one after the other, lead to the journal again,
-- and the stamps that stand before them to these.
pub record LeadsBack (limits : Limits) (journal : List Entry) (made : List Stamp) : Type 0 where
  pub leads : IsAt (lines_played limits (played_lines (lines_in journal made)) unplayed) journal
  pub stamped : stamps journal (stamps_read (lines_in journal made)) ≡ made

-- so it is with each recorded session
abbrev pub RecordedLeadsBack : Type 0
RecordedLeadsBack =
    (limits : Limits) (steps : List Step) (given : List Stamp) → IsLegalSession limits steps given →
    LeadsBack limits (journal_of limits steps) (stamps_of limits steps given)

-- `replay` of the text writes the transcript of the journal and `end N`, where N is how many
-- entries it has, and answers Ok.
pub record ReplaysTo (limits : Limits) (text : List ℕ) (journal : List Entry) : Type 0 where
  pub output : output_of replay text
      ≡ journal_text limits.store journal ++ end_line (length journal)
  pub status : status_of replay text ≡ status.Ok

-- so it is with each recorded session: whatever its limits, `replay` reads all of it
abbrev pub RecordedReplays : Type 0
RecordedReplays =
    (limits : Limits) (steps : List Step) (given : List Stamp) → IsLegalSession limits steps given →
    ReplaysTo limits (text_of_steps limits steps given) (journal_of limits steps)
