-- A field's client between two calls, and what its events do.
use Rattle.std.specs.Prelude.{◌≡◌, ℕ, ◌++◌, List, [], ◌∷◌, Option, Some, None}
use Rattle.std.specs.Option.{option_copied}
use Rattle.wl_proto.specs.declared.event.Event.{Event}
use Rattle.wl_proto.specs.declared.event.Event.TheVariants as events
use Rattle.trial_field.specs.Log.{Batch, no_edits}
use Rattle.client_side.specs.Messages.{spelled, field_setup}
use Rattle.client_side.specs.Client.{after_all}
use Rattle.client_side.specs.Happenings.{Happening, batch, entered, left}
use Rattle.client_side.specs.FieldLog.{Field, field_after, sent_for, new_field, field_of, text_of, sends_of}

-- the field, the edits that wait for their done, and the bytes to send
pub record State : Type 0 where
  pub field : Field
  pub pending : Batch
  pub to_send : List ℕ

-- a new client has its set-up to send
abbrev pub new_state : State
new_state = record { field = new_field; pending = no_edits; to_send = spelled field_setup }

abbrev pub happens : Happening → State → State
happens h s =
    record s { field = field_after h s.field; to_send = s.to_send ++ spelled (sent_for h s.field) }

-- the null string stands for no text
abbrev pub text_or_empty : Option (List ℕ) → List ℕ
text_or_empty None = []
text_or_empty (Some t) = t

-- edits wait until a done; of two of a kind the later counts
abbrev pub after_event : Event → State → State
after_event (events.Enter surface) s = happens entered s
after_event (events.Leave surface) s = happens left s
after_event (events.PreeditString t begin end) s =
    record s {
      pending =
          record s.pending { preedit = text_or_empty (option_copied t); begin = begin; end = end };
    }
after_event (events.CommitString t) s =
    record s { pending = record s.pending { string = text_or_empty (option_copied t) } }
after_event (events.DeleteSurroundingText before behind) s =
    record s { pending = record s.pending { before = before; after = behind } }
after_event (events.TextInputDone serial) s =
    record (happens (batch s.pending serial) s) { pending = no_edits }
after_event _ s = s

-- what an event makes happen to the field, before what happened before
abbrev pub logged : Event → Batch → List Happening → List Happening
logged (events.Enter surface) pending log = entered ∷ log
logged (events.Leave surface) pending log = left ∷ log
logged (events.TextInputDone serial) pending log = batch pending serial ∷ log
logged _ pending log = log

-- the client is as this log made it, and sent these bytes before those that it has to send
pub record HasLog (log : List Happening) (sent : List ℕ) (s : State) : Type 0 where
  pub field : s.field ≡ field_of log
  pub text : s.field.text ≡ text_of log
  pub bytes : sent ++ s.to_send ≡ spelled field_setup ++ spelled (sends_of log)

-- the log of a client to which these events came, from the state on
abbrev pub log_after : List Event → State → List Happening → List Happening
log_after [] s log = log
log_after (event ∷ more) s log = log_after more (after_event event s) (logged event s.pending log)

-- events came, and the log goes on by what they made happen
pub record GoesOn (old new : State) (log : List Happening) (sent : List ℕ) : Type 0 where
  pub events : List Event
  pub state-is : new ≡ after_all after_event events old
  pub has : HasLog (log_after events old log) sent new
