-- What the functions owe that C calls for what the shell says.
use Rattle.std.specs.Prelude.{◌≡◌, ◌⊎◌, ℕ, ℤ, negsuc, Option, Some, None, Result, Err, IfSome, IfNone, IfOk, OnOk, OnErr, IsOkUnless}
use Rattle.relay_model.specs.Route.{Route}
use Rattle.relay_core.specs.Stands.{route_told}
use Rattle.broker_steps.specs.declared.stamp.Stamp.{Stamp}
use Rattle.broker_steps.specs.declared.step.Step.TheVariants as steps
use Rattle.broker_steps.specs.declared.step.ShellStep.{ShellStep}
use Rattle.broker_steps.specs.Ranges.{IsShellStep}
use Rattle.broker_model.specs.declared.journal.Entry.TheVariants as entries
use Rattle.broker_model.specs.Resolve.{resolve}
use Rattle.broker_model.specs.Out.{act_at}
use Rattle.broker_core.specs.declared.answers.Refused.{Refused}
use Rattle.broker_core.specs.declared.answers.Refused.TheVariants as refusals
use Rattle.broker_core.specs.Broker.{with_step, refusal}
use Rattle.c_broker.specs.Steps.{Hearing}
use Rattle.c_broker.specs.Seated.{Bytewise, all_gone}
use Rattle.c_library.specs.Codes.{stamp_at, order_code}
use Rattle.c_library.specs.Called.{Called}

-- what the shell says was taken, as the answer says
pub record Said (step : ShellStep) (given : Stamp) (old new : Bytewise)
    (answer : Result (Option Route) Refused) : Type 0 where
  pub refused : IfSome (refusal old.broker (steps.Shell step)) (λ why. answer ≡ Err why)
  pub accepted : IfNone (refusal old.broker (steps.Shell step))
      (IsOkUnless answer refusals.NoMemory)
  pub ok : OnOk answer (new.broker ≡ all_gone (with_step (entries.Shell step) given old.broker))
  pub route : IfOk answer (λ route. route ≡
      route_told (act_at (entries.Shell step) old.broker.journal) (resolve old.broker.journal))
  pub err : OnErr answer (new.broker ≡ old.broker)
  pub held : new.held ≡ old.held
  pub told : Hearing old.broker old.ears new.broker new.ears

-- a number of the step is out of its range, and all is as before, or the shell says it
abbrev pub Says : (moment : ℕ) → ShellStep → (old new : Bytewise) → ℤ → Type 0
Says moment step old new result =
    ((IsShellStep step → ⊥) × (new ≡ old) × (result ≡ negsuc 7))
    ⊎ (IsShellStep step × (answer : Result (Option Route) Refused) × (result ≡ order_code answer)
    × Said step (stamp_at moment) old new answer)

-- the same of what C has
abbrev pub SayCalled : (moment : ℕ) → ShellStep → Option Bytewise → Option Bytewise → ℤ → Type 0
SayCalled moment step = Called (λ old new result. Says moment step old new result)
