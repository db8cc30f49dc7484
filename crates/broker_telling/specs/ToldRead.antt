-- The laws of what is told: it can be said, it goes to an object of its interface, and it is read.
use Rattle.std.specs.Prelude.{◌≡◌, ℕ, ◌^◌, ◌<◌, ◌≤◌, List, [], ◌∷◌, length, Option, Some, Ok, IfSome}
use Rattle.std.specs.List.{AllByRecursion}
use Rattle.wl_wire.specs.Messages.{IsMessage, AreMessages, id_of, opcode_of, body_of, joined}
use Rattle.wl_proto.specs.declared.interface.Interface.{Interface}
use Rattle.wl_proto.specs.declared.interface.Interface.TheVariants.{KeyboardGrab}
use Rattle.wl_proto.specs.declared.table.Kind.{Kind}
use Rattle.wl_proto.specs.Rows.{Message, event_kinds}
use Rattle.wl_proto.specs.Reading.{event_reading}
use Rattle.wl_proto.specs.Spelling.{message_bytes, message_len}
use Rattle.wl_proto.specs.Spelled.{AreOfKinds, AreTokens}
use Rattle.relay_model.specs.declared.said.Told.{Told}
use Rattle.relay_model.specs.Told.{told}
use Rattle.broker_model.specs.declared.journal.Entry.{Entry}
use Rattle.broker_model.specs.Ids.{Made, made_as}
use Rattle.broker_model.specs.Groups.{message_of}
use Rattle.broker_model.specs.Resolve.{past_of, resolve}
use Rattle.broker_model.specs.Out.{act_at, out_for}
use Rattle.broker_telling.specs.Sayable.{IsSayable, IsHeld, AreHeld}

-- ---- each act can be said

abbrev pub ActsAreSayable : Type 0
ActsAreSayable = (e : Entry) (older : List Entry) → IsHeld e → IsSayable (act_at e older)

-- ---- what is told can be written

-- the message has a row, its values are of the kinds of the row, its opcode has 16 bits, and it has
-- at most 4096 bytes
pub record IsWritable (m : Message) : Type 0 where
  pub row : List Kind
  pub is : event_kinds m.interface m.opcode ≡ Some row
  pub kinds : AreOfKinds row m.values
  pub opcode : m.opcode < 2 ^ 16
  pub size : message_len m ≤ 4096

-- each thing that an entry tells is such a message, if it is one
abbrev pub ToldIsWritable : Type 0
ToldIsWritable =
    (e : Entry) (older : List Entry) → AreHeld (e ∷ older) → length (e ∷ older) < 2 ^ 32 →
    AllByRecursion (λ t. IfSome (message_of (past_of (e ∷ older)).made t.event) IsWritable)
    (told (act_at e older) (resolve older))

-- ---- it goes to an object of its interface

-- what is told to the label of an object is an event of the object's interface
abbrev pub IsForIts : List Made → Told → Type 0
IsForIts made t =
    (object : Made) → made_as made t.to ≡ Some object →
    IfSome (message_of made t.event) (λ m. m.interface ≡ object.interface)

abbrev pub ToldToItsKind : Type 0
ToldToItsKind =
    (e : Entry) (older : List Entry) →
    AllByRecursion (IsForIts (past_of (e ∷ older)).made) (told (act_at e older) (resolve older))

-- ---- what is spelled is read

-- the bytes are a message to the object, and are read as this event of its interface, where the
-- tokens are its own
pub record IsReadAs (object : Made) (m : Message) : Type 0 where
  pub whole : IsMessage (message_bytes object.id m)
  pub to : id_of (message_bytes object.id m) ≡ object.id
  pub opcode : opcode_of (message_bytes object.id m) ≡ m.opcode
  pub interface : m.interface ≡ object.interface
  pub reads : (tokens : List ℕ) → AreTokens tokens m.values →
      event_reading object.interface (opcode_of (message_bytes object.id m)) tokens
      (body_of (message_bytes object.id m))
      ≡ Ok m

-- so is each message that can be written
abbrev pub WritableIsRead : Type 0
WritableIsRead =
    (object : Made) (m : Message) → object.id < 2 ^ 32 → IsWritable m →
    m.interface ≡ object.interface → IsReadAs object m

-- what is told to an object is read as an event of that object
abbrev pub IsToldRead : List Made → Told → Type 0
IsToldRead made t =
    (object : Made) → made_as made t.to ≡ Some object →
    IfSome (message_of made t.event) (IsReadAs object)

-- so is each thing that an entry tells
abbrev pub ToldIsRead : Type 0
ToldIsRead =
    (e : Entry) (older : List Entry) → AreHeld (e ∷ older) → length (e ∷ older) < 2 ^ 32 →
    AllByRecursion (IsToldRead (past_of (e ∷ older)).made) (told (act_at e older) (resolve older))

-- ---- all that is put for a peer

-- a client knows the objects of the peer p: the interface of each under the id under which the peer
-- made it
abbrev pub AreObjectsOf : (ℕ → Option Interface) → List Made → ℕ → Type 0
AreObjectsOf objects made p =
    (m : Made) → made_as made m.label ≡ Some m → m.peer ≡ p → objects m.id ≡ Some m.interface

-- the message is read as an event of one of these objects; a keymap, where its token is at hand
pub record IsHeard (objects : ℕ → Option Interface) (bytes : List ℕ) : Type 0 where
  pub interface : Interface
  pub object : objects (id_of bytes) ≡ Some interface
  pub tokens : List ℕ
  pub plain : (interface ≡ KeyboardGrab → opcode_of bytes ≡ 0 → ⊥) → tokens ≡ []
  pub event : Message
  pub reads : event_reading interface (opcode_of bytes) tokens (body_of bytes) ≡ Ok event

-- the bytes are messages one behind the other, and each is heard
pub record AreHeard (objects : ℕ → Option Interface) (bytes : List ℕ) : Type 0 where
  pub messages : List (List ℕ)
  pub is : bytes ≡ joined messages
  pub whole : AreMessages messages
  pub heard : AllByRecursion (IsHeard objects) messages

-- so is all that a journal puts for a peer
abbrev pub AllIsHeard : Type 0
AllIsHeard =
    (capacity : ℕ) (journal : List Entry) (p : ℕ) (objects : ℕ → Option Interface) →
    AreHeld journal →
    length journal < 2 ^ 32 → AreObjectsOf objects (past_of journal).made p →
    AreHeard objects (out_for capacity journal p).put.bytes
