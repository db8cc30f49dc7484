-- What became of an order of the shell
use Rattle.std.specs.Prelude.{◌≡◌, [], ◌∷◌, ◌++◌, Result, Ok, Err}
use Rattle.broker_steps.specs.declared.limits.Limits.{Limits}
use Rattle.broker_steps.specs.declared.step.ShellStep.{ShellStep}
use Rattle.broker_model.specs.declared.journal.Entry.TheVariants as entries
use Rattle.hub_lock.specs.Passes.{PassSeat}
use Rattle.hub_calls.specs.declared.stop.PassStop.{PassStop}
use Rattle.hub_calls.specs.declared.stop.PassStop.TheVariants as stops
use Rattle.hub_calls.specs.Made.{entries_by, IsFullFor}

-- it was made, or nothing was. JournalFull: the journal is full for it.
abbrev pub Orders : Limits → PassSeat → PassSeat → ShellStep → Result (Unit {0}) PassStop → Type 0
Orders limits before after step (Ok done) =
    entries_by after ≡ entries_by before ++ entries.Shell step ∷ []
Orders limits before after step (Err (stops.JournalFull kept)) =
    (entries_by after ≡ entries_by before) × IsFullFor limits after.seen (entries.Shell step) kept
Orders limits before after step (Err stops.NoMemory) = entries_by after ≡ entries_by before
