-- The method's job on its way
use Rattle.std.specs.Prelude.{◌≡◌, ℕ, Bool, true, false, List, [], ◌++◌, Result, Ok, Err}
use Rattle.broker_steps.specs.declared.limits.Limits.{Limits}
use Rattle.trial_field.specs.Log.{Batch}
use Rattle.client_side.specs.Messages.{Sent}
use Rattle.trial_client_logs.specs.MethodLogs.{method_log}
use Rattle.hub_lock.specs.Passes.{HubId, IsOf}
use Rattle.hub_calls.specs.declared.submit.Sent.TheVariants as sent
use Rattle.hub_calls.specs.declared.submit.Sent as calls
use Rattle.hub_calls.specs.Taken.{HasTaken}
use Rattle.trial_run.specs.declared.typist.TrialTypist.{TrialTypist}
use Rattle.trial_typing.specs.declared.job_end.JobEnd.{JobEnd}
use Rattle.trial_typing.specs.declared.turn.Turn.{Turn}
use Rattle.trial_typing.specs.declared.turn.Turn.TheVariants as turns
use Rattle.trial_typing.specs.Fronts.{IsFrontOf}
use Rattle.trial_typing.specs.Sending.{HasMade, IsCaughtUp, IsOver, HaveSeenMore}
use Rattle.trial_jobs.specs.declared.method_job.MethodJob.{MethodJob}
use Rattle.trial_jobs.specs.MethodAsked.{IsAsked}
use Rattle.trial_jobs.specs.MethodHearing.{Heard, HasShort}
use Rattle.trial_jobs.specs.MethodLaw.{rounds, first_batches, IsFresh, MethodStops}

-- its passes are the hub's and one peer's
pub record IsMethodOf (hub : HubId) (job : MethodJob) : Type 0 where
  pub reads : IsOf hub job.reader.seat
  pub writes : IsOf hub job.writer.seat
  pub one_peer : job.writer.peer ≡ job.reader.peer

-- what a call of a job leaves as it was
pub record MethodKeeps (limits : Limits) (before after : MethodJob) : Type 0 where
  pub saw : HaveSeenMore limits before.reader before.writer after.reader after.writer
  pub same : after.batches ≡ before.batches

-- It committed these batches and heard all that was taken but for this piece. What its log asks
-- for was submitted, but for what waits. If it is quiet, nothing is left to take and its peer
-- lives, as far as its writer has seen.
pub record IsMethodBehind (limits : Limits) (typist : TrialTypist) (job : MethodJob)
    (own : List Batch) (waits : List Sent) (piece : List ℕ) (quiet : Bool) : Type 0 where
  pub taken : List ℕ
  pub took : HasTaken limits job.writer (taken ++ piece)
  pub heard : Heard taken job.client (method_log job.log) own
  pub sents : List Sent
  pub asked : IsAsked typist job.client.state (method_log job.log) sents waits
  pub made : HasMade limits job.reader sents
  pub short : HasShort (method_log job.log)
  pub fresh : IsFresh typist
  pub rests : quiet ≡ true → IsCaughtUp limits job.writer taken

-- it heard all that was taken
abbrev pub IsMethodGoing : Limits → TrialTypist → MethodJob → List Batch → List Sent → Bool →
    Type 0
IsMethodGoing limits typist job own waits quiet =
    IsMethodBehind limits typist job own waits [] quiet

-- its writer took a piece that its client hasn't heard yet, and nothing waits
abbrev pub TookPiece : Limits → TrialTypist → MethodJob → List Batch → List ℕ → Type 0
TookPiece limits typist job own piece = IsMethodBehind limits typist job own [] piece false

-- its peer has ended when it had committed a front of these batches
pub record IsMethodOver (limits : Limits) (typist : TrialTypist) (job : MethodJob)
    (own : List Batch) : Type 0 where
  pub made : List Batch
  pub front : IsFrontOf made own
  pub waits : List Sent
  pub going : IsMethodGoing limits typist job made waits false
  pub over : IsOver limits job.reader job.writer

-- its peer goes on, and nothing waits; or it doesn't
abbrev pub IsMethodAt : Limits → TrialTypist → MethodJob → List Batch → (quiet goes_on : Bool) →
    Type 0
IsMethodAt limits typist job own quiet true = IsMethodGoing limits typist job own [] quiet
IsMethodAt limits typist job own quiet false = IsMethodOver limits typist job own

-- All rounds were made, the peer lives and nothing is left to take, as far as its writer has seen;
-- or it has ended behind a front of them.
abbrev pub IsMethodPlayed : Limits → TrialTypist → MethodJob → Bool → Type 0
IsMethodPlayed limits typist job goes_on =
    IsMethodAt limits typist job (first_batches job rounds) true goes_on

-- what submitting leaves
abbrev pub MethodSends : Limits → TrialTypist → MethodJob → List Batch → (quiet : Bool) →
    Result calls.Sent JobEnd → Type 0
MethodSends limits typist job own quiet (Ok sent.All) =
    IsMethodAt limits typist job own quiet true
MethodSends limits typist job own quiet (Ok (sent.Ended cause)) =
    IsMethodAt limits typist job own quiet false
MethodSends limits typist job own quiet (Err end) = MethodStops limits typist job own end

-- what taking and answering once leaves
abbrev pub MethodTurns : Limits → TrialTypist → MethodJob → List Batch →
    Result Turn JobEnd → Type 0
MethodTurns limits typist job own (Ok turns.More) = IsMethodAt limits typist job own false true
MethodTurns limits typist job own (Ok turns.Quiet) = IsMethodAt limits typist job own true true
MethodTurns limits typist job own (Ok turns.Ended) = IsMethodAt limits typist job own false false
MethodTurns limits typist job own (Err end) = MethodStops limits typist job own end

-- what a part of the job leaves that says whether the peer goes on
abbrev pub MethodGoes : Limits → TrialTypist → MethodJob → List Batch → (quiet : Bool) →
    Result Bool JobEnd → Type 0
MethodGoes limits typist job own quiet (Ok goes_on) =
    IsMethodAt limits typist job own quiet goes_on
MethodGoes limits typist job own quiet (Err end) = MethodStops limits typist job own end

-- what an own batch leaves that isn't sent yet
abbrev pub MethodCommits : Limits → TrialTypist → MethodJob → List Batch → (quiet : Bool) →
    Result (Unit {0}) JobEnd → Type 0
MethodCommits limits typist job own quiet (Ok done) =
    (waits : List Sent) × IsMethodGoing limits typist job own waits quiet
MethodCommits limits typist job own quiet (Err end) = MethodStops limits typist job own end
