-- What the method's client heard of the bytes that came, by its log
use Rattle.std.specs.Prelude.{◌≡◌, ◌≤◌, ℕ, List, [], ◌∷◌, ◌++◌, false, length, map, Result, Ok, Err}
use Rattle.broker_steps.specs.Messages.{IsPartial, joined}
use Rattle.wl_proto.specs.declared.event.Event.{Event}
use Rattle.trial_field.specs.Log.{Batch}
use Rattle.trial_field.specs.declared.batch_view.TheConstants.{MAX_STRING, MAX_PREEDIT}
use Rattle.client_side.specs.Client.{Client}
use Rattle.client_side.specs.Events.{method_objects, AreEvents}
use Rattle.client_side.specs.MethodLog.{Happening, came, committed}
use Rattle.client_side.specs.MethodState.{State, after_event}
use Rattle.trial_client_logs.specs.Hearing.{Accepts, Refuses, HearsSome}
use Rattle.trial_client_logs.specs.MethodLogs.{settled, log_after}
use Rattle.trial_run.specs.Typists.{meanings_of}
use Rattle.trial_run.specs.declared.typist.TrialTypist.{TrialTypist}
use Rattle.trial_laws.specs.TypedLogs.{events_of, batches_of}
use Rattle.trial_typing.specs.Fronts.{IsFrontOf, BeginsWith}
use Rattle.trial_typing.specs.declared.job_end.JobEnd.{JobEnd}
use Rattle.trial_typing.specs.declared.job_end.JobEnd.TheVariants as ends

-- A piece was heard and written down. BadEvent: its events went wrong, unless they did before.
-- NoMemory: the log has the first of them.
abbrev pub HearsPiece : (old new : Client (State TrialTypist)) → (log after : List Happening) →
    (piece : List ℕ) → Result (Unit {0}) JobEnd → Type 0
HearsPiece old new log after piece (Ok done) =
    Accepts method_objects (after_event meanings_of) log_after old new log after piece
HearsPiece old new log after piece (Err ends.BadEvent) =
    old.is_bad ≡ false →
    Refuses method_objects (after_event meanings_of) log_after old new log after piece
HearsPiece old new log after piece (Err ends.NoMemory) =
    HearsSome method_objects (after_event meanings_of) log_after old new log after piece
HearsPiece old new log after piece (Err (ends.JournalFull kept)) = ⊥

-- the client took these bytes, and its log has their events, and its user's batches
pub record Heard (taken : List ℕ) (c : Client (State TrialTypist)) (log : List Happening)
    (own : List Batch) : Type 0 where
  pub events : List Event
  pub messages : List (List ℕ)
  pub are : AreEvents method_objects messages events
  pub front : taken ≡ joined messages ++ c.held
  pub part : IsPartial c.held
  pub good : c.is_bad ≡ false
  pub told : events_of log ≡ map settled events
  pub own-is : batches_of log ≡ own

-- the log has the first of the events in the bytes, and of its user's batches
pub record HeardFirst (taken : List ℕ) (log : List Happening) (own : List Batch) : Type 0 where
  pub events : List Event
  pub begins : BeginsWith method_objects taken events
  pub told : IsFrontOf (events_of log) (map settled events)
  pub own-is : IsFrontOf (batches_of log) own

-- the texts of each batch fit messages
abbrev pub HasShort : List Happening → Type 0
HasShort [] = Unit {0}
HasShort (came event ∷ older) = HasShort older
HasShort (committed b ∷ older) =
    ((length b.string ≤ MAX_STRING) × (length b.preedit ≤ MAX_PREEDIT)) × HasShort older
