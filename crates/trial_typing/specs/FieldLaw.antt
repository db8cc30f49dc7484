-- The law of a field's job
use Rattle.std.specs.Prelude.{◌≡◌, ◌⊎◌, ◌≤◌, ℕ, List, [], ◌++◌, length, map, take, false, Result, Ok, Err}
use Rattle.wl_proto.specs.declared.event.Event.{Event}
use Rattle.relay_model.specs.declared.role.Role.TheVariants.{App}
use Rattle.broker_steps.specs.declared.limits.Limits.{Limits}
use Rattle.trial_field.specs.Log.{Entry, no_edits}
use Rattle.client_side.specs.Client.{Client}
use Rattle.client_side.specs.Events.{field_objects}
use Rattle.client_side.specs.FieldLog.{text_of, sends_of}
use Rattle.client_side.specs.FieldState.{State, new_state}
use Rattle.client_side.specs.Messages.{field_setup}
use Rattle.trial_client_logs.specs.Logs.{edit_of, field_log}
use Rattle.hub_lock.specs.Passes.{HubId}
use Rattle.hub_calls.specs.Taken.{HasTaken}
use Rattle.trial_typing.specs.declared.field_job.FieldJob.{FieldJob}
use Rattle.trial_typing.specs.declared.job_end.JobEnd.{JobEnd}
use Rattle.trial_typing.specs.declared.job_end.JobEnd.TheVariants as ends
use Rattle.trial_typing.specs.Fronts.{IsFrontOf, BeginsWith, AreEventsIn}
use Rattle.trial_typing.specs.Happened.{edits_in, told_in, happenings}
use Rattle.trial_typing.specs.Sending.{HasSent, HasSentFront, HasHeardAll, IsBegun, HaveSeenMore, IsFullForMessage, IsFullForTake}

-- a field's client that sent its set-up, and to which nothing came
abbrev pub begun_client : Client State
begun_client =
    record { state = record new_state { to_send = [] }; held = []; is_bad = false }

-- the first n of its own edits
abbrev pub first_edits : FieldJob → ℕ → List Entry
first_edits job n = map edit_of (take n job.edits)

-- the job is as its peer joined and sent its set-up
pub record IsFieldReady (hub : HubId) (job : FieldJob) : Type 0 where
  pub begun : IsBegun hub App job.reader job.writer field_setup
  pub client : job.client ≡ begun_client
  pub log : job.log ≡ []

-- Where it was done: the log has all own edits, in order; the rest of it is what the events make
-- happen in the bytes that the writer's pass took, a front of what is out for the peer; the
-- reader's steps are the set-up and what the log sends, or a front of it where the peer ended. If
-- it had an edit, nothing was left to take, as far as its writer has seen, unless the peer ended.
pub record IsFieldDone (limits : Limits) (job : FieldJob) : Type 0 where
  pub own : edits_in (field_log job.log) ≡ map edit_of job.edits
  pub taken : List ℕ
  pub took : HasTaken limits job.writer taken
  pub events : List Event
  pub read : AreEventsIn field_objects taken events
  pub told : told_in (field_log job.log) ≡ happenings events no_edits
  pub sent : HasSent limits job.reader job.writer (field_setup ++ sends_of (field_log job.log))
  pub text : job.client.state.field.text ≡ text_of (field_log job.log)
  pub all : 1 ≤ length job.edits → HasHeardAll limits job.reader job.writer taken

-- where it wasn't, each of these lists is a front of that, with these own edits
pub record IsFieldCut (limits : Limits) (job : FieldJob) (own : List Entry) : Type 0 where
  pub own-is : IsFrontOf (edits_in (field_log job.log)) own
  pub taken : List ℕ
  pub took : HasTaken limits job.writer taken
  pub events : List Event
  pub read : BeginsWith field_objects taken events
  pub told : IsFrontOf (told_in (field_log job.log)) (happenings events no_edits)
  pub sent : HasSentFront job.reader (field_setup ++ sends_of (field_log job.log))

-- JournalFull: one of its passes has seen a journal that is full for a message that its log asks
-- for, or for a take, and holds so much
abbrev pub FieldStops : Limits → FieldJob → List Entry → JobEnd → Type 0
FieldStops limits job own (ends.JournalFull kept) = IsFieldCut limits job own
    × (IsFullForMessage limits job.reader (field_setup ++ sends_of (field_log job.log)) kept
    ⊎ IsFullForTake limits job.writer kept)
FieldStops limits job own ends.BadEvent = ⊥
FieldStops limits job own ends.NoMemory = IsFieldCut limits job own

abbrev pub FieldEnds : Limits → FieldJob → Result (Unit {0}) JobEnd → Type 0
FieldEnds limits job (Ok done) = IsFieldDone limits job
FieldEnds limits job (Err end) = FieldStops limits job (map edit_of job.edits) end

-- what running a field's job makes of it
pub record FieldRuns (limits : Limits) (before after : FieldJob)
    (result : Result (Unit {0}) JobEnd) : Type 0 where
  pub saw : HaveSeenMore limits before.reader before.writer after.reader after.writer
  pub same : after.edits ≡ before.edits
  pub ends : FieldEnds limits after result
