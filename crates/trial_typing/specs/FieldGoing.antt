-- A field's job on its way
use Rattle.std.specs.Prelude.{◌≡◌, ◌≤◌, ℕ, Bool, true, false, List, [], ◌++◌, length, map, Result, Ok, Err}
use Rattle.broker_steps.specs.declared.limits.Limits.{Limits}
use Rattle.trial_field.specs.Log.{Entry}
use Rattle.client_side.specs.Messages.{Sent}
use Rattle.trial_client_logs.specs.Logs.{edit_of, field_log}
use Rattle.hub_lock.specs.Passes.{HubId, IsOf}
use Rattle.hub_calls.specs.declared.submit.Sent.TheVariants as sent
use Rattle.hub_calls.specs.declared.submit.Sent as calls
use Rattle.hub_calls.specs.Taken.{HasTaken}
use Rattle.trial_typing.specs.declared.field_job.FieldJob.{FieldJob}
use Rattle.trial_typing.specs.declared.job_end.JobEnd.{JobEnd}
use Rattle.trial_typing.specs.declared.turn.Turn.{Turn}
use Rattle.trial_typing.specs.declared.turn.Turn.TheVariants as turns
use Rattle.trial_typing.specs.FieldHearing.{Heard}
use Rattle.trial_typing.specs.FieldAsked.{IsSent}
use Rattle.trial_typing.specs.FieldLaw.{FieldStops}
use Rattle.trial_typing.specs.Sending.{HasMade, IsCaughtUp, IsOver, HaveSeenMore}

-- its passes are the hub's and one peer's
pub record IsFieldOf (hub : HubId) (job : FieldJob) : Type 0 where
  pub reads : IsOf hub job.reader.seat
  pub writes : IsOf hub job.writer.seat
  pub one_peer : job.writer.peer ≡ job.reader.peer

-- what a call of a job leaves as it was
pub record FieldKeeps (limits : Limits) (before after : FieldJob) : Type 0 where
  pub saw : HaveSeenMore limits before.reader before.writer after.reader after.writer
  pub same : after.edits ≡ before.edits

-- It made these own edits and heard all that was taken. What its log asks for was submitted, but
-- for what waits.
pub record IsFieldGoing (limits : Limits) (job : FieldJob) (own : List Entry) (waits : List Sent)
    : Type 0 where
  pub taken : List ℕ
  pub took : HasTaken limits job.writer taken
  pub heard : Heard taken job.client (field_log job.log) own
  pub sents : List Sent
  pub asked : IsSent job.client.state (field_log job.log) sents waits
  pub made : HasMade limits job.reader sents

-- its writer took a piece that its client hasn't heard yet, and nothing waits
pub record TookPiece (limits : Limits) (job : FieldJob) (own : List Entry) (piece : List ℕ)
    : Type 0 where
  pub taken : List ℕ
  pub took : HasTaken limits job.writer (taken ++ piece)
  pub heard : Heard taken job.client (field_log job.log) own
  pub sents : List Sent
  pub asked : IsSent job.client.state (field_log job.log) sents []
  pub made : HasMade limits job.reader sents

-- its peer goes on, and nothing waits; or it doesn't
abbrev pub IsFieldAt : Limits → FieldJob → List Entry → Bool → Type 0
IsFieldAt limits job own true = IsFieldGoing limits job own []
IsFieldAt limits job own false =
    ((waits : List Sent) × IsFieldGoing limits job own waits)
    × IsOver limits job.reader job.writer

-- Its peer lives, nothing waits, and nothing is left to take, as far as its writer has seen; or
-- the peer doesn't go on.
abbrev pub HasFieldRest : Limits → FieldJob → List Entry → Bool → Type 0
HasFieldRest limits job own true =
    (going : IsFieldGoing limits job own []) × IsCaughtUp limits job.writer going.taken
HasFieldRest limits job own false = IsFieldAt limits job own false

-- All own edits were made, and the peer goes on, or it doesn't. Where there was an edit, nothing is
-- left to take and the peer lives, as far as its writer has seen, if it goes on.
abbrev pub IsFieldPlayed : Limits → FieldJob → Bool → Type 0
IsFieldPlayed limits job goes_on =
    IsFieldAt limits job (map edit_of job.edits) goes_on
    × (1 ≤ length job.edits → HasFieldRest limits job (map edit_of job.edits) goes_on)

-- what submitting leaves
abbrev pub FieldSends : Limits → FieldJob → List Entry → Result calls.Sent JobEnd → Type 0
FieldSends limits job own (Ok sent.All) = IsFieldAt limits job own true
FieldSends limits job own (Ok (sent.Ended cause)) = IsFieldAt limits job own false
FieldSends limits job own (Err end) = FieldStops limits job own end

-- what taking and answering once leaves
abbrev pub FieldTurns : Limits → FieldJob → List Entry → Result Turn JobEnd → Type 0
FieldTurns limits job own (Ok turns.More) = IsFieldAt limits job own true
FieldTurns limits job own (Ok turns.Quiet) = HasFieldRest limits job own true
FieldTurns limits job own (Ok turns.Ended) = IsFieldAt limits job own false
FieldTurns limits job own (Err end) = FieldStops limits job own end

-- what a part of the job leaves that says whether the peer goes on
abbrev pub FieldGoes : Limits → FieldJob → List Entry → Result Bool JobEnd → Type 0
FieldGoes limits job own (Ok goes_on) = IsFieldAt limits job own goes_on
FieldGoes limits job own (Err end) = FieldStops limits job own end

-- what taking and answering until nothing is stored leaves
abbrev pub FieldRests : Limits → FieldJob → List Entry → Result Bool JobEnd → Type 0
FieldRests limits job own (Ok goes_on) = HasFieldRest limits job own goes_on
FieldRests limits job own (Err end) = FieldStops limits job own end

-- what an own edit leaves that isn't sent yet
abbrev pub FieldEdits : Limits → FieldJob → List Entry → Result (Unit {0}) JobEnd → Type 0
FieldEdits limits job own (Ok done) = (waits : List Sent) × IsFieldGoing limits job own waits
FieldEdits limits job own (Err end) = FieldStops limits job own end
