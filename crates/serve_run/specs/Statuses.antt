-- The statuses: their numbers, and what brings them
use Rattle.std.specs.Prelude.{ℕ, List, [], ◌∷◌, Result, Ok, Err}
use Rattle.serve_record.specs.declared.record.RecordStop.{RecordStop}
use Rattle.serve_record.specs.declared.record.RecordStop.TheVariants as record_stops
use Rattle.serve_run.specs.declared.status.ServeStatus.{ServeStatus}
use Rattle.serve_run.specs.declared.status.ServeStatus.TheVariants as statuses
use Rattle.serve_run.specs.declared.stop.Stop.{Stop}
use Rattle.serve_run.specs.declared.stop.Stop.TheVariants as stops
use Rattle.serve_run.specs.declared.stop.Trouble.{Trouble}
use Rattle.serve_run.specs.declared.stop.Trouble.TheVariants as troubles
use Rattle.peer_link.specs.declared.ends.ReadEnd.TheVariants as read_ends
use Rattle.peer_link.specs.declared.ends.WriteEnd.TheVariants as write_ends
use Rattle.peer_link.specs.declared.ends.ShellEnd.TheVariants as shell_ends
use Rattle.serve_jobs.specs.Tags.{End, Report}
use Rattle.serve_jobs.specs.Tags.End.{read, wrote, ordered}

abbrev pub number_of : ServeStatus → ℕ
number_of statuses.Ok = 0
number_of statuses.BadWords = 2
number_of statuses.WriteFault = 5
number_of statuses.NoMemory = 6
number_of statuses.JournalFull = 7
number_of statuses.NetFault = 8
number_of statuses.NoThread = 9

-- what the end of a loop brings: a fault, a torn frame, a bad frame or a bad line ends its link
-- alone, and brings nothing, but where what was stored for it couldn't be taken
abbrev pub brought_by : End → Trouble
brought_by (read (read_ends.JournalFull kept)) = troubles.JournalFull
brought_by (read read_ends.NoMemory) = troubles.NoMemory
brought_by (read _) = troubles.None
brought_by (wrote (write_ends.JournalFull kept)) = troubles.JournalFull
brought_by (wrote write_ends.NoMemory) = troubles.NoMemory
brought_by (wrote _) = troubles.None
brought_by (ordered (shell_ends.JournalFull kept)) = troubles.JournalFull
brought_by (ordered shell_ends.NoMemory) = troubles.NoMemory
brought_by (ordered _) = troubles.None

-- the worse of two
abbrev pub worse : Trouble → Trouble → Trouble
worse troubles.NoMemory other = troubles.NoMemory
worse one troubles.NoMemory = troubles.NoMemory
worse troubles.JournalFull other = troubles.JournalFull
worse one troubles.JournalFull = troubles.JournalFull
worse troubles.None troubles.None = troubles.None

-- the worst that reports bring, in the order in which they came
abbrev pub worst_from : Trouble → List Report → Trouble
worst_from so_far [] = so_far
worst_from so_far (r ∷ rs) = worst_from (worse so_far (brought_by r.end)) rs

abbrev pub worst : List Report → Trouble
worst reports = worst_from troubles.None reports

-- the status of a run whose whole session was written: of all that came the one with the lowest
-- number
abbrev pub status_by : Result (Unit {0}) Stop → Trouble → ServeStatus
status_by (Err stops.NoMemory) trouble = statuses.NoMemory
status_by accepted troubles.NoMemory = statuses.NoMemory
status_by (Err stops.JournalFull) trouble = statuses.JournalFull
status_by accepted troubles.JournalFull = statuses.JournalFull
status_by (Err stops.NetFault) troubles.None = statuses.NetFault
status_by (Err stops.NoThread) troubles.None = statuses.NoThread
status_by (Ok done) troubles.None = statuses.Ok

-- the status of a run whose record ended so
abbrev pub status_with : Result (Unit {0}) RecordStop → Result (Unit {0}) Stop → Trouble →
    ServeStatus
status_with (Ok done) accepted trouble = status_by accepted trouble
status_with (Err record_stops.WriteFault) accepted trouble = statuses.WriteFault
status_with (Err record_stops.NoMemory) accepted trouble = statuses.NoMemory
