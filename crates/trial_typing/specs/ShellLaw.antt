-- The law of the shell's job
use Rattle.std.specs.Prelude.{◌≡◌, List, [], ◌∷◌, ◌++◌, map, Result, Ok, Err}
use Rattle.broker_steps.specs.declared.limits.Limits.{Limits}
use Rattle.broker_steps.specs.declared.step.ShellStep.{ShellStep}
use Rattle.broker_model.specs.declared.journal.Entry.{Entry}
use Rattle.broker_model.specs.declared.journal.Entry.TheVariants as entries
use Rattle.hub_lock.specs.Seats.{having_seen}
use Rattle.hub_lock.specs.Passes.{HubId, PassSeat, IsOf}
use Rattle.broker_model.specs.declared.journal.Kept.{Kept}
use Rattle.hub_calls.specs.Made.{entries_by, SawMore, IsFullFor}
use Rattle.trial_typing.specs.Fronts.{IsFrontOf}
use Rattle.trial_typing.specs.declared.shell_job.ShellJob.{ShellJob}
use Rattle.trial_typing.specs.declared.job_end.JobEnd.{JobEnd}
use Rattle.trial_typing.specs.declared.job_end.JobEnd.TheVariants as ends

-- the entries of the shell's orders
abbrev pub ordered : List ShellStep → List Entry
ordered steps = map (λ (step : ShellStep). entries.Shell step) steps

-- the pass is the hub's, and made no step
pub record IsShellReady (hub : HubId) (job : ShellJob) : Type 0 where
  pub of : IsOf hub job.pass
  pub none : entries_by job.pass ≡ []

-- the pass made the first of these orders, and the journal that it has seen is full for the next
-- and holds so much
pub record IsFullForNext (limits : Limits) (pass : PassSeat) (steps : List ShellStep)
    (kept : Kept) : Type 0 where
  pub next : ShellStep
  pub later : List ShellStep
  pub orders : ordered steps ≡ entries_by pass ++ ordered (next ∷ later)
  pub full : IsFullFor limits pass.seen (entries.Shell next) kept

-- where it was done, the pass made all orders, in order, else the first of them
abbrev pub Orders : Limits → PassSeat → List ShellStep → Result (Unit {0}) JobEnd → Type 0
Orders limits pass steps (Ok done) = entries_by pass ≡ ordered steps
Orders limits pass steps (Err (ends.JournalFull kept)) = IsFullForNext limits pass steps kept
Orders limits pass steps (Err ends.BadEvent) = ⊥
Orders limits pass steps (Err ends.NoMemory) = IsFrontOf (entries_by pass) (ordered steps)

-- what running the shell's job makes of it
pub record ShellRuns (limits : Limits) (before after : ShellJob)
    (result : Result (Unit {0}) JobEnd) : Type 0 where
  pub pass : after.pass ≡ having_seen before.pass after.pass.seen
  pub saw : SawMore limits before.pass.seen after.pass.seen
  pub same : after.steps ≡ before.steps
  pub ends : Orders limits after.pass after.steps result
