-- What is printed.
use Rattle.std.specs.Prelude.{◌≡◌, ℕ, List, ◌++◌, codes, Some}
use Rattle.broker_steps.specs.declared.stamp.Stamp.{Stamp}
use Rattle.broker_steps.specs.declared.step.Step.{Step}
use Rattle.broker_steps.specs.declared.step.Step.TheVariants as steps
use Rattle.broker_steps.specs.declared.step.PeerStep.TheVariants as peers
use Rattle.broker_steps.specs.declared.step.ShellStep.TheVariants as shells
use Rattle.session_text.specs.declared.line.Form.TheVariants.{Session, Session2}
use Rattle.session_text.specs.declared.line.Line.TheVariants as lines
use Rattle.session_text.specs.declared.line.SessionLine.{SessionLine}
use Rattle.session_text.specs.Grammar.{spelling}
use Rattle.session_text.specs.Reading.{line_of}
use Rattle.session_text.specs.SessionGrammar.{HasStampedLine}
use Rattle.session_text.specs.Steps.{step_line}

-- the bytes are those of the line, and a session of form 2 has it behind a stamp
abbrev pub Prints : List ℕ → SessionLine → Type 0
Prints bytes line = (bytes ≡ spelling Session (lines.Session line)) × HasStampedLine line

-- the stamp of a step of which neither moment nor author is known
abbrev pub unstamped : Stamp
unstamped = record { moment = 0; author = 0 }

-- form 1 has the step: it is neither tokens nor a moment
abbrev pub IsOldStep : Step → Type 0
IsOldStep (steps.Peer p (peers.Tokens tokens)) = ⊥
IsOldStep (steps.Shell (shells.At moment)) = ⊥
IsOldStep _ = Unit {0}

-- The bytes are read again as the line that gives the step alone: as a line of form 1, where that
-- has the step, and with the stamp of nothing known before it as a line of form 2.
pub record IsReadAgain (step : Step) (bytes : List ℕ) : Type 0 where
  pub old : IsOldStep step → line_of Session bytes ≡ Some (lines.Session (step_line step))
  pub stamped : line_of Session2 (codes "0 0 " ++ bytes) ≡
      Some (lines.Stamped unstamped (step_line step))
