-- What a field's client heard of the bytes that came, by its log
use Rattle.std.specs.Prelude.{◌≡◌, ℕ, List, [], ◌∷◌, ◌++◌, true, false}
use Rattle.wl_wire.specs.Messages.{IsPartial, joined}
use Rattle.wl_proto.specs.declared.event.Event.{Event}
use Rattle.trial_field.specs.Log.{Batch, Entry, no_edits}
use Rattle.client_side.specs.Events.{field_objects, AreEvents}
use Rattle.client_side.specs.Client.{Client, IsWrong}
use Rattle.client_side.specs.FieldState.{State, after_event, log_after}
use Rattle.client_side.specs.Happenings.{Happening}
use Rattle.trial_client_logs.specs.Hearing.{Accepts, Refuses, HearsSome}
use Rattle.trial_typing.specs.Fronts.{IsFrontOf, BeginsWith}
use Rattle.trial_typing.specs.Happened.{edits_in, told_in, waiting_after, happenings}

-- the edits that wait for their done after events
abbrev pub waiting : List Event → Batch → Batch
waiting [] w = w
waiting (event ∷ more) w = waiting more (waiting_after event w)

-- a piece was heard and written down, whether its events went wrong or not; or the client hears no
-- more
pub data HeardOn (old new : Client State) (log after : List Happening)
    (piece : List ℕ) : Type 0 where
  accepted : old.is_bad ≡ false
      → Accepts field_objects after_event log_after old new log after piece
      → HeardOn old new log after piece
  refused : old.is_bad ≡ false
      → Refuses field_objects after_event log_after old new log after piece
      → HeardOn old new log after piece
  unheard : old.is_bad ≡ true → new ≡ old → after ≡ log → HeardOn old new log after piece

-- memory lacked: the log has the first of what the piece made happen
pub record HeardPart (old new : Client State) (log after : List Happening)
    (piece : List ℕ) : Type 0 where
  pub some : HearsSome field_objects after_event log_after old new log after piece
  pub stays : old.is_bad ≡ true → after ≡ log

-- the client took these bytes, and its log has what they make happen, and its own edits
pub record Heard (taken : List ℕ) (c : Client State) (log : List Happening)
    (own : List Entry) : Type 0 where
  pub events : List Event
  pub messages : List (List ℕ)
  pub rest : List ℕ
  pub are : AreEvents field_objects messages events
  pub front : taken ≡ joined messages ++ rest
  pub good : c.is_bad ≡ false → (rest ≡ c.held) × IsPartial rest
  pub bad : c.is_bad ≡ true → IsWrong field_objects rest
  pub waits : c.is_bad ≡ false → c.state.pending ≡ waiting events no_edits
  pub told : told_in log ≡ happenings events no_edits
  pub own-is : edits_in log ≡ own

-- the log has the first of what the bytes make happen, and of its own edits
pub record HeardFirst (taken : List ℕ) (log : List Happening) (own : List Entry) : Type 0 where
  pub events : List Event
  pub begins : BeginsWith field_objects taken events
  pub told : IsFrontOf (told_in log) (happenings events no_edits)
  pub own-is : IsFrontOf (edits_in log) own
