-- What calls lead to: the history of their steps, with the stamps that they gave.
use Rattle.std.specs.Prelude.{◌≡◌, ℕ, List, [], ◌∷◌, false}
use Rattle.std.specs.List.{AllByRecursion}
use Rattle.broker_steps.specs.declared.limits.Limits.{Limits}
use Rattle.broker_steps.specs.declared.stamp.Stamp.{Stamp}
use Rattle.broker_model.specs.declared.journal.Entry.{Entry}
use Rattle.broker_model.specs.Settle.{history}
use Rattle.broker_model.specs.Stamps.{follows, stamps}
use Rattle.broker_core.specs.Broker.{Broker, begun, with_step, letting_go}

-- a call that was answered with success: it put a step, with the stamp that it gave; or the
-- entries up to a number were let go, by `pop_oldest` one more than were gone
pub data Call : Type 0 where
  Put : (step : Entry) (given : Stamp) → Call
  LettingGo : (number : ℕ) → Call

-- what calls lead to from the beginning on, the newest first
abbrev pub after_calls : Limits → List Call → Broker
after_calls limits [] = begun limits
after_calls limits (Put step given ∷ older) = with_step step given (after_calls limits older)
after_calls limits (LettingGo number ∷ older) = letting_go number (after_calls limits older)

-- its step, if it put one, is no end that follows from another
abbrev pub IsOwn : Call → Type 0
IsOwn (Put step given) = follows step ≡ false
IsOwn (LettingGo number) = Unit {0}

-- no call is an end that follows from another
abbrev pub AreSteps : List Call → Type 0
AreSteps calls = AllByRecursion IsOwn calls

-- the entries of their steps
abbrev pub steps_of : List Call → List Entry
steps_of [] = []
steps_of (Put step given ∷ older) = step ∷ steps_of older
steps_of (LettingGo number ∷ older) = steps_of older

-- the stamps that they gave with these
abbrev pub given_by : List Call → List Stamp
given_by [] = []
given_by (Put step given ∷ older) = given ∷ given_by older
given_by (LettingGo number ∷ older) = given_by older

-- the journal is the history of their steps, and its stamps are those for what they gave
pub record IsOfCalls (limits : Limits) (calls : List Call) (b : Broker) : Type 0 where
  pub allowed : b.limits ≡ limits
  pub steps : b.journal ≡ history limits.store (steps_of calls)
  pub stamped : b.stamps ≡ stamps b.journal (given_by calls)

-- so it is after any calls
abbrev pub CallLaw : Type 0
CallLaw = (limits : Limits) (calls : List Call) → AreSteps calls →
    IsOfCalls limits calls (after_calls limits calls)
