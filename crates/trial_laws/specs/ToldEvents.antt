-- The events that the acts of a journal tell a peer, as a client hears them.
use Rattle.std.specs.Prelude.{ℕ, List, [], ◌∷◌, ◌++◌, ◌==◌, if◌then◌else◌, Option, Some, None}
use Rattle.wl_proto.specs.declared.event.Event.{Event}
use Rattle.wl_proto.specs.Rows.{Message}
use Rattle.relay_model.specs.declared.said.Told.{Told}
use Rattle.relay_model.specs.declared.said.Said.{Said}
use Rattle.relay_model.specs.Told.{told}
use Rattle.broker_model.specs.declared.journal.Entry.{Entry}
use Rattle.broker_model.specs.Ids.{Made, made_as}
use Rattle.broker_model.specs.Groups.{message_of}
use Rattle.broker_model.specs.Resolve.{past_of, resolve}
use Rattle.broker_model.specs.Out.{act_at, group_at, fits, before_group, out_for}
use Rattle.trial_run.specs.Events.{event_of}
use Rattle.trial_laws.specs.FieldLogs.{then_events}

-- the event of a message, if there is one
abbrev pub event_said : Option Message → List Event
event_said None = []
event_said (Some m) = then_events (event_of m) []

-- the event that is told to this object, where it is one of the peer with the label p
abbrev pub event_for : List Made → ℕ → Said → Option Made → List Event
event_for made p event None = []
event_for made p event (Some object) =
    if object.peer == p then event_said (message_of made event) else []

-- the events of what is told to the peer's objects, in order
abbrev pub events_for : List Made → ℕ → List Told → List Event
events_for made p [] = []
events_for made p (t ∷ rest) =
    event_for made p t.event (made_as made t.to) ++ events_for made p rest

-- the events that the act of the newest entry tells the peer
abbrev pub events_at : Entry → List Entry → ℕ → List Event
events_at e older p =
    events_for (past_of (e ∷ older)).made p (told (act_at e older) (resolve older))

-- The events that the acts of a journal tell the peer, in order. What an act tells is told whole,
-- or not at all where it doesn't fit.
abbrev pub events_told : ℕ → List Entry → ℕ → List Event
events_told capacity [] p = []
events_told capacity (e ∷ older) p =
    events_told capacity older p
    ++ (if fits capacity (group_at e older p) (before_group e older p (out_for capacity older p))
    then events_at e older p else [])
