-- What a client makes of the bytes that it took: it hears the events that they spell, one after the
-- other.
use Rattle.std.specs.Prelude.{ℕ, List, [], ◌∷◌, ◌++◌, length, Bool, true, false, not, ◌&&◌, ◌||◌, nat_le, if◌then◌else◌, Option, Some, None, Result, Ok, Err}
use Rattle.wl_wire.specs.Messages.{size_of, id_of, opcode_of, body_of, is_good, messages}
use Rattle.wl_proto.specs.declared.interface.Interface.{Interface}
use Rattle.wl_proto.specs.declared.refuse.Refuse.{Refuse}
use Rattle.wl_proto.specs.declared.event.Event.{Event}
use Rattle.wl_proto.specs.Rows.{Message}
use Rattle.wl_proto.specs.Reading.{event_reading}
use Rattle.client_side.specs.Events.{object_in}
use Rattle.client_side.specs.Client.{Client, Step}
use Rattle.trial_run.specs.Events.{event_of}
pub use Rattle.wl_wire.specs.Messages.{behind}

abbrev pub event_read : Result Message Refuse → Option Event
event_read (Ok m) = event_of m
event_read (Err r) = None

-- the event that a whole message spells to an object of this interface; no client is given tokens
abbrev pub event_to : Option Interface → List ℕ → Option Event
event_to None m = None
event_to (Some i) m = event_read (event_reading i (opcode_of m) [] (body_of m))

-- the same, to one of these objects
abbrev pub event_in : List Interface → List ℕ → Option Event
event_in objects m = event_to (object_in objects (id_of m)) m

-- the state after events, and whether a message came that spells none
pub record Heard (S : Type 0) : Type 0 where
  pub state : S
  pub is_bad : Bool

abbrev pub heard_next : {S : Type 0} → Step S → Option Event → S → (S → Heard S) → Heard S
heard_next step None s next = record { state = s; is_bad = true }
heard_next step (Some event) s next = next (step event s)

-- the events that messages spell, up to the first message that spells none
abbrev pub heard : {S : Type 0} → Step S → List Interface → List (List ℕ) → S → Heard S
heard step objects [] s = record { state = s; is_bad = false }
heard step objects (m ∷ ms) s = heard_next step (event_in objects m) s (heard step objects ms)

-- the bytes begin with a header whose size is bad
abbrev pub has_bad_size : List ℕ → Bool
has_bad_size bytes = nat_le 8 (length bytes) && not (is_good (size_of bytes))

-- a cut message waits for its rest; where something else stands there, all bytes stay
abbrev pub client_of : {S : Type 0} → Heard S → List ℕ → Bool → Client S
client_of h bytes is_bad = record {
  state = h.state;
  held = if is_bad then bytes else behind bytes;
  is_bad = is_bad;
}

abbrev pub bytes_heard : {S : Type 0} → Step S → List Interface → List ℕ → S → Client S
bytes_heard step objects bytes s =
    let h = heard step objects (messages bytes) s in
    client_of h bytes (h.is_bad || has_bad_size (behind bytes))

-- a client after it received a piece; one to which something bad came hears nothing any more
unfoldable pub received : {S : Type 0} → Step S → List Interface → List ℕ → Client S → Client S
received step objects piece c =
    if c.is_bad then c else bytes_heard step objects (c.held ++ piece) c.state
