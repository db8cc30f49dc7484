-- What a client reads of the stream of its peer: what an id means to it when the bytes come.
use Rattle.std.specs.Prelude.{◌≡◌, ℕ, ◌^◌, ◌<◌, List, [], ◌∷◌, ◌++◌, length, Bool, true, false, ◌==◌, ◌&&◌, if◌then◌else◌, Option, Some, None, Ok}
use Rattle.std.specs.List.{slice_get, count_by}
use Rattle.wl_wire.specs.Messages.{IsMessage, id_of, opcode_of, body_of, joined}
use Rattle.wl_proto.specs.declared.interface.Interface.{Interface}
use Rattle.wl_proto.specs.declared.interface.Interface.TheVariants as interface
use Rattle.wl_proto.specs.Grammar.{Value, word}
use Rattle.wl_proto.specs.Rows.{Message}
use Rattle.wl_proto.specs.Reading.{event_reading}
use Rattle.wl_proto.specs.Spelled.{AreTokens}
use Rattle.relay_model.specs.declared.said.Told.{Told}
use Rattle.relay_model.specs.Told.{told}
use Rattle.broker_model.specs.declared.journal.Entry.{Entry}
use Rattle.broker_model.specs.Ids.{Made, made_as}
use Rattle.broker_model.specs.Groups.{message_of}
use Rattle.broker_model.specs.Out.{act_at, group_at, fits, before_group, out_for}
use Rattle.broker_model.specs.Resolve.{past_of, resolve}
use Rattle.broker_model.specs.Settle.{history}
use Rattle.broker_telling.specs.Sayable.{AreHeld}

-- ---- the events that a peer is told

-- what is told to an object of a peer, and the message that it is
pub record Heard : Type 0 where
  pub told : Told
  pub object : Made
  pub message : Message

abbrev pub heard_by : Told → Made → Option Message → List Heard
heard_by t object None = []
heard_by t object (Some m) = record { told = t; object = object; message = m } ∷ []

-- the same, where the object is one of the peer p
abbrev pub heard_to : List Made → (p : ℕ) → Told → Option Made → List Heard
heard_to made p t None = []
heard_to made p t (Some object) =
    if object.peer == p then heard_by t object (message_of made t.event) else []

-- of these, the events that go to objects of the peer p, in order
abbrev pub heard_of : List Made → (p : ℕ) → List Told → List Heard
heard_of made p [] = []
heard_of made p (t ∷ ts) = heard_to made p t (made_as made t.to) ++ heard_of made p ts

-- those of the newest entry
abbrev pub heard_at : Entry → List Entry → (p : ℕ) → List Heard
heard_at e older p = heard_of (past_of (e ∷ older)).made p (told (act_at e older) (resolve older))

-- those of each entry whose group was put for the peer, in order: what a journal tells it
abbrev pub heard_put : (capacity : ℕ) → List Entry → (p : ℕ) → List Heard
heard_put capacity [] p = []
heard_put capacity (e ∷ older) p =
    heard_put capacity older p
    ++ (if fits capacity (group_at e older p) (before_group e older p (out_for capacity older p))
    then heard_at e older p else [])

-- ---- what an id means to a client

-- what the peer p made under the id, the oldest first
abbrev pub made_under : List Made → (p id : ℕ) → List Made
made_under [] p id = []
made_under (m ∷ older) p id =
    made_under older p id ++ (if (m.peer == p) && (m.id == id) then m ∷ [] else [])

abbrev pub names_id : List Value → ℕ → Bool
names_id (word n ∷ []) id = n == id
names_id _ id = false

abbrev pub is_display : Interface → Bool
is_display interface.Display = true
is_display _ = false

-- the event says that the id is free again (wl_display.delete_id)
abbrev pub frees : (id : ℕ) → Message → Bool
frees id m = is_display m.interface && (m.opcode == 1) && names_id m.values id

-- how often that was read
abbrev pub times_freed : (id : ℕ) → (read : List Message) → ℕ
times_freed id read = count_by (frees id) read

-- What the id means to a client that made all that and has read these events: the first object that it made under the
-- id whose `delete_id` it hasn't read. It is free where there is none.
abbrev pub meaning : List Made → (p : ℕ) → (read : List Message) → (id : ℕ) → Option Made
meaning made p read id = slice_get (made_under made p id) (times_freed id read)

-- ---- what it reads

-- the bytes are a message to the object that its id means to the client by then, and are read as this event of the
-- object's interface, with the tokens that go with it; as no other, for a reading has one answer
pub record IsRead (made : List Made) (p : ℕ) (read : List Message) (bytes : List ℕ) (x : Heard) : Type 0 where
  pub whole : IsMessage bytes
  pub object : meaning made p read (id_of bytes) ≡ Some x.object
  pub reads : (tokens : List ℕ) → AreTokens tokens x.message.values →
      event_reading x.object.interface (opcode_of bytes) tokens (body_of bytes) ≡ Ok x.message

-- the messages are read one after the other as these events, behind what was read before: as many of the one as of
-- the other, the first as the first
abbrev pub AreRead : List Made → (p : ℕ) → (read : List Message) → List (List ℕ) → List Heard → Type 0
AreRead made p read [] [] = Unit {0}
AreRead made p read (bytes ∷ more) (x ∷ xs) =
    IsRead made p read bytes x × AreRead made p (read ++ x.message ∷ []) more xs
AreRead made p read _ _ = ⊥

-- what a journal puts for the peer is read as what it tells it
pub record IsReadStream (capacity : ℕ) (journal : List Entry) (p : ℕ) : Type 0 where
  pub messages : List (List ℕ)
  pub is : (out_for capacity journal p).put.bytes ≡ joined messages
  pub read : AreRead (past_of journal).made p [] messages (heard_put capacity journal p)

-- so it is with every peer of every history of entries that a program can hold, whatever ids it uses again
abbrev pub StreamsAreRead : Type 0
StreamsAreRead =
    (capacity : ℕ) (steps : List Entry) (p : ℕ) →
    AreHeld (history capacity steps) → length (history capacity steps) < 2 ^ 32 →
    IsReadStream capacity (history capacity steps) p
