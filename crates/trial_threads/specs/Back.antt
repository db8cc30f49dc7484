-- Passes that came back to the root, and what the root has seen since
use Rattle.std.specs.Prelude.{◌≡◌, ◌≤◌, ◌++◌, ◌-◌, ℕ, List, [], ◌∷◌, length}
use Rattle.std.specs.List.{AllByRecursion}
use Rattle.trial_client_logs.specs.declared.entry.FieldEntry.{FieldEntry}
use Rattle.trial_client_logs.specs.declared.method_log.MethodEntry.{MethodEntry}
use Rattle.turn_lock.specs.Pairs.{HasSeen, IsIn}
use Rattle.hub_lock.specs.Seats.{IsTallied}
use Rattle.hub_lock.specs.Histories.{History}
use Rattle.hub_lock.specs.Passes.{PassSeat}
use Rattle.trial_jobs.specs.declared.job.TrialJob.{TrialJob}
use Rattle.trial_jobs.specs.declared.job.TrialJob.TheVariants as jobs
use Rattle.trial_threads.specs.declared.running.Running.{Running}
use Rattle.trial_threads.specs.Jobs.{field_logs, method_log_in}

-- the numbers of a job's passes, and of those of these jobs, the last first
abbrev pub numbers_of : TrialJob → List ℕ
numbers_of (jobs.Field job) = job.writer.seat.number ∷ job.reader.seat.number ∷ []
numbers_of (jobs.Method job) = job.writer.seat.number ∷ job.reader.seat.number ∷ []
numbers_of (jobs.Shell job) = job.pass.number ∷ []

abbrev pub numbers_after : List ℕ → List Running → List ℕ
numbers_after ns [] = ns
numbers_after ns (r ∷ rs) = numbers_after (numbers_of r.job ++ ns) rs

abbrev pub numbers_in : List Running → List ℕ
numbers_in rs = numbers_after [] rs

-- the root took it back, and has seen all that it had, and no later step of it
pub record IsBack (root pass : PassSeat) : Type 0 where
  pub taken : IsIn pass.number root.taken
  pub seen : HasSeen root.seen pass.number pass.seen

-- so it is with each pass of a job, and of these jobs
abbrev pub JobIsBack : PassSeat → TrialJob → Type 0
JobIsBack root (jobs.Field job) = IsBack root job.reader.seat × IsBack root job.writer.seat
JobIsBack root (jobs.Method job) = IsBack root job.reader.seat × IsBack root job.writer.seat
JobIsBack root (jobs.Shell job) = IsBack root job.pass

abbrev pub AreBack : PassSeat → List Running → Type 0
AreBack root rs = AllByRecursion (λ (r : Running). JobIsBack root r.job) rs

-- the root has seen more since, with no later step of its own and of a pass that was back, and named
-- nobody
pub record SeesOn (before after : PassSeat) : Type 0 where
  pub number : after.number ≡ before.number
  pub named : after.named ≡ before.named
  pub mine : HasSeen after.seen before.number before.seen
  pub taken : (n : ℕ) → IsIn n before.taken → IsIn n after.taken
  pub settled : (n : ℕ) → IsIn n before.taken → HasSeen after.seen n before.seen

-- the root took back the passes of a job
pub record TookBack (before after : PassSeat) (job : TrialJob) : Type 0 where
  pub sees : SeesOn before after
  pub back : JobIsBack after job
  pub out : after.out ≡ before.out - length (numbers_of job)
  pub numbers : after.taken ≡ numbers_of job ++ before.taken
  pub tallied : IsTallied after

-- the root took back the passes of all jobs, and these are their logs
pub record TookAllBack (before after : PassSeat) (rs : List Running)
    (fields : List (List FieldEntry)) (method : List MethodEntry) : Type 0 where
  pub sees : SeesOn before after
  pub back : AreBack after rs
  pub out : after.out ≡ before.out - length (numbers_in rs)
  pub numbers : after.taken ≡ numbers_after before.taken rs
  pub tallied : 1 ≤ length rs → IsTallied after
  pub logs : fields ≡ field_logs rs
  pub method_log : method ≡ method_log_in rs []
