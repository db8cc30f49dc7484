-- What the end of a run tells, once its links were accepted
use Rattle.std.specs.Prelude.{◌≡◌, ◌≢◌, ℕ, List, ◌∷◌, ◌++◌, length, map, take, drop, Option, Result, Err}
use Rattle.turn_lock.specs.Pairs.{HasSeen, IsIn, total}
use Rattle.wio_core.specs.Io.{Rose}
use Rattle.hub_lock.specs.Histories.{History}
use Rattle.hub_lock.specs.Lawful.{IsLawful}
use Rattle.hub_lock.specs.Passes.{HubId, PassSeat}
use Rattle.serve_jobs.specs.Tags.{Tag, Report}
use Rattle.serve_record.specs.declared.record.RecordStop.{RecordStop}
use Rattle.serve_record.specs.declared.record.RecordStop.TheVariants as record_stops
use Rattle.serve_run.specs.declared.status.ServeStatus.{ServeStatus}
use Rattle.serve_run.specs.declared.stop.Stop.{Stop}
use Rattle.serve_run.specs.LinkJobs.{job_reported, job_tagged}
use Rattle.serve_run.specs.Reported.{HaveLaws, AreTaken}
use Rattle.serve_run.specs.Statuses.{status_with, worst}
use Rattle.serve_run.specs.Unserved.{pushed}
use Rattle.serve_run.specs.Written.{IsRecorded}

-- The root took all results back, each with its law, and then stands for a lawful history that has
-- no later step of theirs; its recorded session went out, or a front of it, and how that ended is
-- the status with what stopped the accepting and the worst of the results.
pub record IsEnded (hub : HubId) (linked : PassSeat) (started : List Tag)
    (reports reports' : List Report) (held held' : Option (List ℕ)) (faults faults' : ℕ)
    (accepted : Result (Unit {0}) Stop) (status : ServeStatus) : Type 0 where
  pub collected : PassSeat
  pub mine : HasSeen collected.seen 0 linked.seen
  pub kept : (n : ℕ) → IsIn n linked.taken →
      IsIn n collected.taken × HasSeen collected.seen n linked.seen
  pub given : List Report
  pub came : reports' ≡ reports ++ given
  pub laws : HaveLaws hub.limits collected.seen given
  pub in_taken : AreTaken collected.taken given
  pub taken : collected.taken ≡ pushed (map job_reported given) linked.taken
  pub keyed : map job_reported given
      ≡ map job_tagged (take (length given) (drop (length reports) started))
  pub history : History
  pub copied : HasSeen history 0 collected.seen
  pub settled : (n : ℕ) → IsIn n collected.taken → HasSeen history n collected.seen
  pub lawful : IsLawful hub.limits history
  pub owned : total (0 ∷ collected.taken) history ≡ length history
  pub written : Result (Unit {0}) RecordStop
  pub recorded : IsRecorded hub.limits held held' history written
  pub fault : written ≡ Err record_stops.WriteFault → Rose faults faults'
  pub no_fault : written ≢ Err record_stops.WriteFault → faults' ≡ faults
  pub status_is : status ≡ status_with written accepted (worst given)
