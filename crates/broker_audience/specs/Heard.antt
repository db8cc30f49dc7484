-- What a peer hears of what is told, as it is gathered for it.
use Rattle.std.specs.Prelude.{ℕ, List, [], ◌∷◌, ◌==◌, if◌then◌else◌, Option, Some, None}
use Rattle.wl_proto.specs.Rows.{Message}
use Rattle.relay_model.specs.declared.said.Told.{Told}
use Rattle.relay_model.specs.declared.said.Said.{Said}
use Rattle.broker_model.specs.Ids.{Made, made_as}
use Rattle.broker_model.specs.Groups.{message_of}
use Rattle.broker_audience.specs.Gathered.{Gathered, with_message}

-- the message of an event behind what is gathered, if it has one
abbrev pub with_event : ℕ → Option Message → Gathered → Gathered
with_event id None g = g
with_event id (Some m) g = with_message id m g

-- an event that goes to this object, where it is one of the peer p
abbrev pub hears_at : List Made → ℕ → Said → Option Made → Gathered → Gathered
hears_at made p event None g = g
hears_at made p event (Some m) g =
    (if m.peer == p then with_event m.id (message_of made event) g else g)

-- one thing told
abbrev pub hears : List Made → ℕ → Told → Gathered → Gathered
hears made p t g = hears_at made p t.event (made_as made t.to) g

-- all that is told, in order
abbrev pub heard : List Made → ℕ → List Told → Gathered → Gathered
heard made p [] g = g
heard made p (t ∷ rest) g = heard made p rest (hears made p t g)
