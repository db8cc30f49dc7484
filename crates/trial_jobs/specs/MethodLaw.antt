-- The law of the method's job
use Rattle.std.specs.Prelude.{◌≡◌, ◌⊎◌, ℕ, List, [], map, take, false, Result, Ok, Err}
use Rattle.wl_proto.specs.declared.event.Event.{Event}
use Rattle.trial_run.specs.Role.TheVariants.{Method}
use Rattle.broker_steps.specs.declared.limits.Limits.{Limits}
use Rattle.dict_method.specs.Table.{IsTable}
use Rattle.dict_method.specs.Dictionary.{IsDictionary}
use Rattle.trial_field.specs.Log.{Batch}
use Rattle.client_side.specs.Client.{Client, IsWrong}
use Rattle.client_side.specs.Events.{method_objects}
use Rattle.client_side.specs.Messages.{method_setup}
use Rattle.client_side.specs.MethodLog.{typist_of}
use Rattle.client_side.specs.MethodState.{State, new_state}
use Rattle.trial_client_logs.specs.Logs.{batch_of}
use Rattle.trial_client_logs.specs.MethodLogs.{settled, method_log}
use Rattle.hub_lock.specs.Passes.{HubId}
use Rattle.hub_calls.specs.Taken.{HasTaken}
use Rattle.trial_run.specs.Typists.{meanings_of}
use Rattle.trial_run.specs.declared.typist.TrialTypist.{TrialTypist}
use Rattle.trial_run.specs.declared.typist.TrialTypist.TheVariants as typists
use Rattle.trial_laws.specs.TypedLogs.{events_of, batches_of, requests_of}
use Rattle.trial_typing.specs.Fronts.{IsFrontOf, BeginsWith, AreEventsIn}
use Rattle.trial_typing.specs.Sending.{HasSent, HasSentFront, HasHeardAll, IsOver, IsBegun, HaveSeenMore, IsFullForMessage, IsFullForTake}
use Rattle.trial_typing.specs.declared.job_end.JobEnd.{JobEnd}
use Rattle.trial_typing.specs.declared.job_end.JobEnd.TheVariants as ends
use Rattle.trial_jobs.specs.declared.method_job.MethodJob.{MethodJob}

-- how many rounds the method makes
abbrev pub rounds : ℕ
rounds = 1000

-- a typist as it is made, with a table and a dictionary such as methods have
abbrev pub IsFresh : TrialTypist → Type 0
IsFresh (typists.Compose m) = IsTable m.table × (m.rest ≡ [])
IsFresh (typists.Dict m) = IsTable m.table × IsDictionary m.dict × (m.code ≡ [])

-- the typist of a job
abbrev pub typist_in : MethodJob → TrialTypist
typist_in job = job.client.state.typist.typing

-- the method's client that sent its set-up, and to which nothing came
abbrev pub begun_client : TrialTypist → Client (State TrialTypist)
begun_client typist =
    record { state = record (new_state typist) { to_send = [] }; held = []; is_bad = false }

-- the first n of what its user commits
abbrev pub first_batches : MethodJob → ℕ → List Batch
first_batches job n = map batch_of (take n job.batches)

-- the job is as its peer joined and sent its set-up
pub record IsMethodReady (hub : HubId) (job : MethodJob) : Type 0 where
  pub begun : IsBegun hub Method job.reader job.writer method_setup
  pub fresh : IsFresh (typist_in job)
  pub client : job.client ≡ begun_client (typist_in job)
  pub log : job.log ≡ []

-- what its user commits: the first thousand of the batches, or the first of these where the peer
-- ended
abbrev pub HasCommitted : Limits → MethodJob → Type 0
HasCommitted limits job =
    (batches_of (method_log job.log) ≡ first_batches job rounds)
    ⊎ (IsFrontOf (batches_of (method_log job.log)) (first_batches job rounds)
    × IsOver limits job.reader job.writer)

-- Where it was done: the log has these batches, in order; its events are those in the bytes that
-- the writer's pass took, a front of what is out for the peer; the reader's steps are the set-up
-- and what the log asks for, or a front of it where the peer ended; the client typed by the log;
-- nothing was left to take, as far as its writer has seen, unless the peer ended.
pub record IsMethodDone (limits : Limits) (typist : TrialTypist) (job : MethodJob) : Type 0 where
  pub own : HasCommitted limits job
  pub taken : List ℕ
  pub took : HasTaken limits job.writer taken
  pub events : List Event
  pub read : AreEventsIn method_objects taken events
  pub told : events_of (method_log job.log) ≡ map settled events
  pub sent : HasSent limits job.reader job.writer (requests_of typist (method_log job.log))
  pub typed : job.client.state.typist ≡ typist_of meanings_of typist (method_log job.log)
  pub all : HasHeardAll limits job.reader job.writer taken

-- where it wasn't, each of these lists is a front of that, with these own batches
pub record IsMethodCut (limits : Limits) (typist : TrialTypist) (job : MethodJob)
    (own : List Batch) : Type 0 where
  pub own-is : IsFrontOf (batches_of (method_log job.log)) own
  pub taken : List ℕ
  pub took : HasTaken limits job.writer taken
  pub events : List Event
  pub read : BeginsWith method_objects taken events
  pub told : IsFrontOf (events_of (method_log job.log)) (map settled events)
  pub sent : HasSentFront job.reader (requests_of typist (method_log job.log))

-- JournalFull: one of its passes has seen a journal that is full for a request that its log asks
-- for, or for a take, and holds so much. BadEvent: behind these events the bytes go wrong.
abbrev pub MethodStops : Limits → TrialTypist → MethodJob → List Batch → JobEnd → Type 0
MethodStops limits typist job own (ends.JournalFull kept) = IsMethodCut limits typist job own
    × (IsFullForMessage limits job.reader (requests_of typist (method_log job.log)) kept
    ⊎ IsFullForTake limits job.writer kept)
MethodStops limits typist job own ends.BadEvent =
    (cut : IsMethodCut limits typist job own) × IsWrong method_objects cut.read.rest
MethodStops limits typist job own ends.NoMemory = IsMethodCut limits typist job own

abbrev pub MethodEnds : Limits → TrialTypist → MethodJob → Result (Unit {0}) JobEnd → Type 0
MethodEnds limits typist job (Ok done) = IsMethodDone limits typist job
MethodEnds limits typist job (Err end) =
    MethodStops limits typist job (first_batches job rounds) end

-- what running the method's job makes of it
pub record MethodRuns (limits : Limits) (before after : MethodJob)
    (result : Result (Unit {0}) JobEnd) : Type 0 where
  pub saw : HaveSeenMore limits before.reader before.writer after.reader after.writer
  pub same : after.batches ≡ before.batches
  pub ends : MethodEnds limits (typist_in before) after result
