-- Why a trial isn't played to its end
use Rattle.std.specs.Prelude.{Bool, List, [], ◌∷◌, Option, Some, None, Result, Ok, Err}
use Rattle.trial_typing.specs.declared.job_end.JobEnd.{JobEnd}
use Rattle.trial_typing.specs.declared.job_end.JobEnd.TheVariants as ends
use Rattle.trial_threads.specs.declared.no_job.NoJob.{NoJob}
use Rattle.trial_threads.specs.declared.no_job.NoJob.TheVariants as none
use Rattle.trial_threads.specs.declared.running.Running.{Running}
use Rattle.trial_threads.specs.declared.stop.Stop.{Stop}
use Rattle.trial_threads.specs.declared.stop.Stop.TheVariants as stops

-- where a job isn't begun, and where it isn't done
abbrev pub stop_by_begin : NoJob → Stop
stop_by_begin (none.JournalFull kept) = stops.Full kept
stop_by_begin (none.TooManyPeers alive) = stops.TooManyPeers alive
stop_by_begin none.NoMemory = stops.NoMemory

abbrev pub stop_by_job : JobEnd → Stop
stop_by_job (ends.JournalFull kept) = stops.Full kept
stop_by_job ends.BadEvent = stops.BadEvent
stop_by_job ends.NoMemory = stops.NoMemory

-- the end of the first job that wasn't done
abbrev pub stop_or : Result Bool JobEnd → Option Stop → Option Stop
stop_or (Ok goes_on) later = later
stop_or (Err end) later = Some (stop_by_job end)

abbrev pub first_stop_in : List Running → Option Stop
first_stop_in [] = None
first_stop_in (r ∷ rs) = stop_or r.ended (first_stop_in rs)
