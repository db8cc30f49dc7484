-- Which outer steps lines can give again.
use Rattle.std.specs.Prelude.{◌≡◌, false, List, [], ◌∷◌, map}
use Rattle.std.specs.List.{AllByRecursion}
use Rattle.broker_steps.specs.declared.limits.Limits.{Limits}
use Rattle.broker_steps.specs.declared.stamp.Stamp.{Stamp}
use Rattle.broker_steps.specs.declared.step.Step.{Step}
use Rattle.broker_steps.specs.Ranges.{IsLimits}
use Rattle.session_text.specs.Steps.{step_line}
use Rattle.session_text.specs.SessionGrammar.{HasStampedLine, IsStamp}
use Rattle.broker_model.specs.declared.journal.Entry.{Entry}
use Rattle.broker_model.specs.Limits.{is_full}
use Rattle.broker_model.specs.Settle.{history}
use Rattle.broker_core.specs.Broker.{entry_of}
use Rattle.seat_set.specs.Played.{Play}
use Rattle.seat_set.specs.Laws.{CanPlay}

-- a journal of peers that sent whole messages alone: no bytes of them are unread
abbrev pub quiet : List Entry → Play
quiet journal = record { journal = journal; unread = [] }

-- A step that its line gives again behind a journal.
pub record IsLegal (limits : Limits) (journal : List Entry) (step : Step) : Type 0 where
  -- its line is one of form 2: each number is in its range, of bytes there are 1 to 4,096, and of
  -- tokens 1 to 256
  pub line : HasStampedLine (step_line step)
  -- who joins finds fewer than 64 alive; who sends is alive, and sends a whole message or a header
  -- with a bad size; who takes finds as many bytes stored
  pub can : CanPlay limits step (quiet journal)
  -- the journal isn't full for it
  pub fits : is_full limits journal (entry_of step) ≡ false

-- the journal of steps, the newest first
abbrev pub journal_of : Limits → List Step → List Entry
journal_of limits steps = history limits.store (map entry_of steps)

-- each is legal behind the journal of those before it
abbrev pub AreLegal : Limits → List Step → Type 0
AreLegal limits [] = Unit {0}
AreLegal limits (step ∷ older) =
    IsLegal limits (journal_of limits older) step × AreLegal limits older

-- a session that lines can give again: its limits, its steps, and the stamps that their calls gave,
-- both with the newest first
pub record IsLegalSession (limits : Limits) (steps : List Step) (given : List Stamp) : Type 0 where
  pub limited : IsLimits limits
  pub legal : AreLegal limits steps
  pub stamped : AllByRecursion IsStamp given
