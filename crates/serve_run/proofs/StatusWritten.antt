-- The status of a run, by how its record ended
use Rattle.std.proofs.Common.{◌≡◌, ◌⊎◌, inl, inr, [], ℕ, List, Option, Result, Ok, Err, refl, sym, subst, append-nil}
use Rattle.std.specs.Io.KnownBytes.{Appends}
use Rattle.broker_steps.specs.declared.limits.Limits.{Limits}
use Rattle.hub_lock.specs.Histories.{History, broker_of}
use Rattle.serve_record.specs.declared.record.RecordStop.{RecordStop}
use Rattle.serve_record.specs.declared.record.RecordStop.TheVariants as record_stops
use Rattle.serve_record.specs.Recorded.{recorded}
use Rattle.serve_run.specs.declared.status.ServeStatus.{ServeStatus}
use Rattle.serve_run.specs.declared.status.ServeStatus.TheVariants as statuses
use Rattle.serve_run.specs.declared.stop.Stop.{Stop}
use Rattle.serve_run.specs.declared.stop.Stop.TheVariants as stops
use Rattle.serve_run.specs.declared.stop.Trouble.{Trouble}
use Rattle.serve_run.specs.declared.stop.Trouble.TheVariants as troubles
use Rattle.serve_run.specs.ServerLaw.{IsWritten}
use Rattle.serve_run.specs.Statuses.{status_by, status_with}
use Rattle.serve_run.specs.Written.{IsRecorded}

written_whole : (s : ServeStatus) (held after : Option (List ℕ)) (text : List ℕ) → Appends held after text
    → IsWritten s held after text
written_whole statuses.Ok held after text all = all
written_whole statuses.BadWords held after text all = all
written_whole statuses.WriteFault held after text all = (text, [], all, append-nil text)
written_whole statuses.NoMemory held after text all = (text, [], all, append-nil text)
written_whole statuses.JournalFull held after text all = all
written_whole statuses.NetFault held after text all = all
written_whole statuses.NoThread held after text all = all

pub written_with : (limits : Limits) (held after : Option (List ℕ)) (h : History) (r : Result (Unit {0}) RecordStop)
    (accepted : Result (Unit {0}) Stop) (trouble : Trouble) → IsRecorded limits held after h r
    → IsWritten (status_with r accepted trouble) held after
    (recorded limits (broker_of limits h).journal (broker_of limits h).stamps)
written_with limits held after h (Ok done) accepted trouble is =
    written_whole (status_by accepted trouble) held after
    (recorded limits (broker_of limits h).journal (broker_of limits h).stamps) is.0
written_with limits held after h (Err record_stops.WriteFault) accepted trouble is = is.1
written_with limits held after h (Err record_stops.NoMemory) accepted trouble is = is.1

-- a whole record is no write fault
never_fault : (accepted : Result (Unit {0}) Stop) (trouble : Trouble) → status_by accepted trouble ≡ statuses.WriteFault
    → ⊥
never_fault (Ok done) troubles.None e = cc
never_fault (Ok done) troubles.JournalFull e = cc
never_fault (Ok done) troubles.NoMemory e = cc
never_fault (Err stops.NoMemory) troubles.None e = cc
never_fault (Err stops.NoMemory) troubles.JournalFull e = cc
never_fault (Err stops.NoMemory) troubles.NoMemory e = cc
never_fault (Err stops.JournalFull) troubles.None e = cc
never_fault (Err stops.JournalFull) troubles.JournalFull e = cc
never_fault (Err stops.JournalFull) troubles.NoMemory e = cc
never_fault (Err stops.NetFault) troubles.None e = cc
never_fault (Err stops.NetFault) troubles.JournalFull e = cc
never_fault (Err stops.NetFault) troubles.NoMemory e = cc
never_fault (Err stops.NoThread) troubles.None e = cc
never_fault (Err stops.NoThread) troubles.JournalFull e = cc
never_fault (Err stops.NoThread) troubles.NoMemory e = cc

pub fault_with : (r : Result (Unit {0}) RecordStop) (accepted : Result (Unit {0}) Stop) (trouble : Trouble)
    → status_with r accepted trouble ≡ statuses.WriteFault → r ≡ Err record_stops.WriteFault
fault_with (Ok done) accepted trouble e = absurd (never_fault accepted trouble e)
fault_with (Err record_stops.WriteFault) accepted trouble e = refl
fault_with (Err record_stops.NoMemory) accepted trouble e = absurd (cc)

status_cases : (r : Result (Unit {0}) RecordStop) (accepted : Result (Unit {0}) Stop) (trouble : Trouble)
    → (status_with r accepted trouble ≡ status_by accepted trouble)
    ⊎ ((status_with r accepted trouble ≡ statuses.WriteFault) ⊎ (status_with r accepted trouble ≡ statuses.NoMemory))
status_cases (Ok done) accepted trouble = inl refl
status_cases (Err record_stops.WriteFault) accepted trouble = inr (inl refl)
status_cases (Err record_stops.NoMemory) accepted trouble = inr (inr refl)

pub status_is : (s : ServeStatus) (r : Result (Unit {0}) RecordStop) (accepted : Result (Unit {0}) Stop) (trouble : Trouble)
    → s ≡ status_with r accepted trouble
    → (s ≡ status_by accepted trouble) ⊎ ((s ≡ statuses.WriteFault) ⊎ (s ≡ statuses.NoMemory))
status_is s r accepted trouble e =
    subst (λ x. (x ≡ status_by accepted trouble) ⊎ ((x ≡ statuses.WriteFault) ⊎ (x ≡ statuses.NoMemory))) (sym e)
    (status_cases r accepted trouble)
