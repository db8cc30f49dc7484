-- Why a job isn't done to its end
use Rattle.std.specs.Prelude.{Bool, Result, Ok, Err}
use Rattle.hub_calls.specs.declared.stop.PassStop.{PassStop}
use Rattle.hub_calls.specs.declared.stop.PassStop.TheVariants as stops
use Rattle.trial_typing.specs.declared.job_end.JobEnd.{JobEnd}
use Rattle.trial_typing.specs.declared.job_end.JobEnd.TheVariants as ends

-- the end of a job whose pass could make no step
abbrev pub end_by : PassStop → JobEnd
end_by (stops.JournalFull kept) = ends.JournalFull kept
end_by stops.NoMemory = ends.NoMemory

-- whether a job was done, where its answer also says whether its peer goes on
abbrev pub done_of : Result Bool JobEnd → Result (Unit {0}) JobEnd
done_of (Ok goes_on) = Ok tt
done_of (Err end) = Err end
