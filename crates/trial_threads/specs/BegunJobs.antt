-- Jobs that begin
use Rattle.std.specs.Prelude.{◌≡◌, ◌≤◌, ◌+◌, ◌++◌, ◌∷◌, [], ℕ, List, length}
use Rattle.broker_steps.specs.declared.limits.Limits.{Limits}
use Rattle.broker_model.specs.declared.journal.Kept.{Kept}
use Rattle.client_side.specs.Messages.{field_setup, method_setup}
use Rattle.turn_lock.specs.Pairs.{total}
use Rattle.hub_lock.specs.Passes.{HubId, PassSeat, steps_of}
use Rattle.trial_run.specs.declared.typist.TrialTypist.{TrialTypist}
use Rattle.trial_threads.specs.declared.no_job.NoJob.{NoJob}
use Rattle.trial_threads.specs.declared.no_job.NoJob.TheVariants as none
use Rattle.trial_threads.specs.NoJobs.{WasFull, count_of}
use Rattle.trial_threads.specs.declared.running.Running.{Running}
use Rattle.trial_threads.specs.Back.{numbers_in}
use Rattle.trial_threads.specs.Users.{Part}
use Rattle.trial_threads.specs.Jobs.{AreIdle, IsIdle, TypeAs, TypesAs, parts_in, part_of}

-- the jobs of these users are ready
pub record HaveBegun (hub : HubId) (typist : TrialTypist) (parts : List Part)
    (rs : List Running) : Type 0 where
  pub idle : AreIdle hub rs
  pub types : TypeAs typist rs
  pub users : parts_in rs ≡ parts

-- the job of this user is put behind the others, and is ready
pub record IsPut (hub : HubId) (typist : TrialTypist) (part : Part)
    (before after : List Running) : Type 0 where
  pub job : Running
  pub put : after ≡ before ++ job ∷ []
  pub idle : IsIdle hub job
  pub types : TypesAs typist job.job
  pub user : part_of job.job ≡ part

-- The journal was full for the peer of the next user. The root has made few steps, and so have the
-- passes that came back; those of these jobs are out.
pub record WasFullEarly (limits : Limits) (root : PassSeat) (rs : List Running)
    (kept : Kept) : Type 0 where
  pub full : WasFull limits root.seen kept
  pub number : root.number ≡ 0
  pub jobs : length rs ≤ 17
  pub made : steps_of root ≤ length rs + 1
  pub out : root.out ≡ length (numbers_in rs)
  pub few : total root.taken root.seen ≤ count_of field_setup + count_of method_setup

-- why the next user has no job: the journal was full, or there was no memory
abbrev pub IsUnbegun : Limits → PassSeat → List Running → NoJob → Type 0
IsUnbegun limits root rs (none.JournalFull kept) = WasFullEarly limits root rs kept
IsUnbegun limits root rs (none.TooManyPeers alive) = ⊥
IsUnbegun limits root rs none.NoMemory = Unit {0}
