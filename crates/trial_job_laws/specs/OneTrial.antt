-- The jobs of a whole trial over one hub, all done
use Rattle.std.specs.Prelude.{◌≡◌, ◌⊎◌, ◌≤◌, ℕ, ◌+◌, Bool, true, false, List, length, Some, Result}
use Rattle.std.specs.List.{AllByRecursion, slice_get}
use Rattle.broker_steps.specs.declared.limits.Limits.{Limits}
use Rattle.broker_model.specs.declared.journal.Entry.{Entry}
use Rattle.broker_model.specs.declared.journal.Entry.TheVariants as entries
use Rattle.trial_client_logs.specs.Logs.{field_log}
use Rattle.trial_client_logs.specs.MethodLogs.{method_log}
use Rattle.turn_lock.specs.Pairs.{HasSeen}
use Rattle.hub_lock.specs.declared.step.OuterStep.{OuterStep}
use Rattle.hub_lock.specs.Histories.{History}
use Rattle.hub_lock.specs.Lawful.{IsLawful}
use Rattle.hub_lock.specs.Passes.{PeerPass}
use Rattle.hub_calls.specs.Counted.{entries_of_pass, is_join}
use Rattle.hub_calls.specs.Made.{entries_by, journal_of}
use Rattle.hub_calls.specs.Taken.{HasAll}
use Rattle.trial_laws.specs.RelayedBatches.{IsFrontOf}
use Rattle.trial_run.specs.declared.typist.TrialTypist.{TrialTypist}
use Rattle.trial_typing.specs.declared.field_job.FieldJob.{FieldJob}
use Rattle.trial_typing.specs.declared.job_end.JobEnd.{JobEnd}
use Rattle.trial_typing.specs.declared.shell_job.ShellJob.{ShellJob}
use Rattle.trial_typing.specs.FieldLaw.{IsFieldDone, FieldEnds}
use Rattle.trial_typing.specs.Sending.{IsOver}
use Rattle.trial_typing.specs.ShellLaw.{ordered, Orders}
use Rattle.trial_jobs.specs.declared.method_job.MethodJob.{MethodJob}
use Rattle.trial_jobs.specs.MethodHearing.{HasShort}
use Rattle.trial_jobs.specs.MethodLaw.{IsFresh, IsMethodDone, MethodEnds}
use Rattle.trial_job_laws.specs.Passes.{ArePassesOf, HasEndIn}
use Rattle.trial_job_laws.specs.FieldTold.{IsFieldTold, IsFieldToldAndSent, IsAllTold}
use Rattle.trial_job_laws.specs.MethodTold.{IsMethodTold, IsMethodToldAndSent, HasKeys}
use Rattle.trial_job_laws.specs.ShellTold.{orders_of, IsFocusOrKey}

-- ---- whose passes made the steps

-- the number is that of one of a peer's passes
abbrev pub IsOfPeer : PeerPass → PeerPass → ℕ → Type 0
IsOfPeer reader writer n = (n ≡ reader.seat.number) ⊎ (n ≡ writer.seat.number)

-- or of one of these fields' passes
pub record IsOfField (fields : List FieldJob) (n : ℕ) : Type 0 where
  pub k : ℕ
  pub job : FieldJob
  pub is : slice_get fields k ≡ Some job
  pub of : IsOfPeer job.reader job.writer n

-- or of the root, the shell, the method or a field
abbrev pub IsOfTrial : MethodJob → List FieldJob → ShellJob → ℕ → Type 0
IsOfTrial method fields shell n =
    (n ≡ 0)
    ⊎ ((n ≡ shell.pass.number)
    ⊎ (IsOfPeer method.reader method.writer n ⊎ IsOfField fields n))

abbrev pub is_take : Entry → Bool
is_take (entries.Took q bytes) = true
is_take _ = false

-- they are the peer's passes, and the writer's made takes alone
pub record IsOnePeer (h : History) (q : ℕ) (reader writer : PeerPass) : Type 0 where
  pub passes : ArePassesOf h q reader writer
  pub takes : AllByRecursion (λ (e : Entry). is_take e ≡ true) (entries_by writer.seat)

-- ---- the jobs

-- how many entries the journal has that these steps make
abbrev pub entries_after : Limits → History → ℕ
entries_after limits h = length (journal_of limits h)

-- The field's job was done. Its writer took all that was put as far as it has seen, which is no
-- less than the shell, the method's reader and its own have; or its peer ended.
pub record HasRested (limits : Limits) (method : MethodJob) (shell : ShellJob)
    (job : FieldJob) : Type 0 where
  pub done : IsFieldDone limits job
  pub rest : (HasAll limits job.writer done.taken
      × (entries_after limits shell.pass.seen ≤ entries_after limits job.writer.seat.seen)
      × (entries_after limits method.reader.seat.seen ≤ entries_after limits job.writer.seat.seen)
      × (entries_after limits job.reader.seat.seen ≤ entries_after limits job.writer.seat.seen))
      ⊎ IsOver limits job.reader job.writer

-- the same of the method's, whose writer has seen no less than the shell has
pub record HasMethodRested (limits : Limits) (typist : TrialTypist) (method : MethodJob)
    (shell : ShellJob) : Type 0 where
  pub done : IsMethodDone limits typist method
  pub rest : (HasAll limits method.writer done.taken
      × (entries_after limits shell.pass.seen ≤ entries_after limits method.writer.seat.seen))
      ⊎ IsOver limits method.reader method.writer

-- The method's peer is the first, and those of the fields follow, in order. What their passes and
-- the shell's have seen are fronts of one lawful history with no later step of theirs, and each of
-- its steps is of one of them or a join by the root. The method's typist was fresh, its user's
-- batches fit messages, and the shell says keys and where the focus is.
pub record AreJobs (limits : Limits) (h : History) (typist : TrialTypist) (method : MethodJob)
    (fields : List FieldJob) (shell : ShellJob) : Type 0 where
  pub lawful : IsLawful limits h
  pub method_peer : IsOnePeer h 1 method.reader method.writer
  pub field_peers : (k : ℕ) (job : FieldJob) → slice_get fields k ≡ Some job →
      IsOnePeer h (k + 2) job.reader job.writer
  pub shell_seen : HasSeen h shell.pass.number shell.pass.seen
  pub joins : AllByRecursion (λ (e : Entry). is_join e ≡ true) (entries_of_pass 0 h)
  pub each : AllByRecursion (λ (s : ℕ × OuterStep). IsOfTrial method fields shell s.0) h
  pub fresh : IsFresh typist
  pub short : HasShort (method_log method.log)
  pub keys : AllByRecursion IsFocusOrKey shell.steps

-- such jobs, all done
pub record IsTrial (limits : Limits) (h : History) (typist : TrialTypist) (method : MethodJob)
    (fields : List FieldJob) (shell : ShellJob) : Type 0 where
  pub jobs : AreJobs limits h typist method fields shell
  pub ordered-are : entries_by shell.pass ≡ ordered shell.steps
  pub method_rested : HasMethodRested limits typist method shell
  pub rested : (k : ℕ) (job : FieldJob) → slice_get fields k ≡ Some job →
      HasRested limits method shell job

-- such jobs, each with the law of its end
pub record IsCutTrial (limits : Limits) (h : History) (typist : TrialTypist) (method : MethodJob)
    (fields : List FieldJob) (shell : ShellJob) : Type 0 where
  pub jobs : AreJobs limits h typist method fields shell
  pub shell_ends : (r : Result (Unit {0}) JobEnd) × Orders limits shell.pass shell.steps r
  pub method_ends : (r : Result (Unit {0}) JobEnd) × MethodEnds limits typist method r
  pub field_ends : (k : ℕ) (job : FieldJob) → slice_get fields k ≡ Some job →
      (r : Result (Unit {0}) JobEnd) × FieldEnds limits job r

-- ---- what the one journal says

-- The field's log has a front of what the journal tells it, and all of that unless its peer ended;
-- its peer's steps are the set-up and what its log sends, or a front where it ended.
pub record HasFieldTold (limits : Limits) (journal : List Entry) (q : ℕ)
    (job : FieldJob) : Type 0 where
  pub told : IsFieldToldAndSent limits journal q (field_log job.log)
  pub all : (HasEndIn journal q → ⊥) → IsAllTold limits journal q (field_log job.log)

-- So it is with each field. The method's log has a front of the events that the journal tells its
-- peer, all of them up to the last take and each key unless its peer ended, and its peer's steps
-- are what the log asks for. The shell's orders are the script's.
pub record IsToldWhole (limits : Limits) (journal : List Entry) (typist : TrialTypist)
    (method : MethodJob) (fields : List FieldJob) (shell : ShellJob) : Type 0 where
  pub orders : orders_of journal ≡ shell.steps
  pub method_told : IsMethodToldAndSent limits journal typist (method_log method.log)
  pub keys_told : (HasEndIn journal 1 → ⊥) →
      HasKeys limits journal (journal_of limits method.writer.seat.seen) (method_log method.log)
  pub fields_told : (k : ℕ) (job : FieldJob) → slice_get fields k ≡ Some job →
      HasFieldTold limits journal (k + 2) job

-- so it is with every trial whose jobs were done
abbrev pub TrialsAreTold : Type 0
TrialsAreTold =
    (limits : Limits) (h : History) (typist : TrialTypist) (method : MethodJob)
    (fields : List FieldJob) (shell : ShellJob) →
    IsTrial limits h typist method fields shell →
    IsToldWhole limits (journal_of limits h) typist method fields shell

-- ---- however the jobs ended

-- The same with a front in place of each list: of the orders, of what the method and each field are
-- told, and of what their logs send.
pub record IsToldFront (limits : Limits) (journal : List Entry) (typist : TrialTypist)
    (method : MethodJob) (fields : List FieldJob) (shell : ShellJob) : Type 0 where
  pub orders : IsFrontOf (orders_of journal) shell.steps
  pub method_told : IsMethodTold limits journal typist (method_log method.log)
  pub fields_told : (k : ℕ) (job : FieldJob) → slice_get fields k ≡ Some job →
      IsFieldTold limits journal (k + 2) (field_log job.log)

abbrev pub CutTrialsAreTold : Type 0
CutTrialsAreTold =
    (limits : Limits) (h : History) (typist : TrialTypist) (method : MethodJob)
    (fields : List FieldJob) (shell : ShellJob) →
    IsCutTrial limits h typist method fields shell →
    IsToldFront limits (journal_of limits h) typist method fields shell
