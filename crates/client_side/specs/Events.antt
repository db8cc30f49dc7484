-- Which events a client takes: those of its live objects.
use Rattle.std.specs.Prelude.{ℕ, zero, suc, List, [], ◌∷◌, Option, Some, None}
use Rattle.std.specs.List.{slice_get}
use Rattle.wl_proto.specs.declared.interface.Interface.{Interface}
use Rattle.wl_proto.specs.declared.interface.Interface.TheVariants.{Display, Registry, Compositor, Seat, TextInputManager, Surface, TextInput, InputMethodManager, InputMethod, KeyboardGrab}
use Rattle.wl_proto.specs.declared.event.Event.{Event}
use Rattle.wl_proto.specs.Rows.{event_kinds, event_message}
use Rattle.wl_proto.specs.Spelled.{IsRead}
use Rattle.wl_wire.specs.Messages.{IsMessage, id_of, opcode_of, body_of}

-- the interfaces of the objects with the ids 1, 2, ..; a client keeps its objects
abbrev pub object_in : List Interface → ℕ → Option Interface
object_in interfaces zero = None
object_in interfaces (suc n) = slice_get interfaces n

-- what a field's client has
abbrev pub field_objects : List Interface
field_objects = Display ∷ Registry ∷ Compositor ∷ Seat ∷ TextInputManager ∷ Surface ∷ TextInput ∷ []

-- what the method's client has
abbrev pub method_objects : List Interface
method_objects = Display ∷ Registry ∷ Seat ∷ InputMethodManager ∷ InputMethod ∷ KeyboardGrab ∷ []

-- a body with this opcode spells the event to an object of this interface; no client is given
-- tokens
abbrev pub IsEventIn : Interface → ℕ → List ℕ → Event → Type 0
IsEventIn i opcode body event = IsRead (event_kinds i opcode) i opcode [] body (event_message event)

-- an opcode and a body spell the event to this object
abbrev pub IsEventTo : Option Interface → ℕ → List ℕ → Event → Type 0
IsEventTo None opcode body event = ⊥
IsEventTo (Some i) opcode body event = IsEventIn i opcode body event

-- the message spells the event to this object
abbrev pub IsEventOf : Option Interface → List ℕ → Event → Type 0
IsEventOf object m event = IsEventTo object (opcode_of m) (body_of m) event

-- each message spells its event
abbrev pub AreEvents : List Interface → List (List ℕ) → List Event → Type 0
AreEvents objects [] [] = Unit {0}
AreEvents objects (m ∷ ms) (event ∷ events) =
    IsMessage m × IsEventOf (object_in objects (id_of m)) m event × AreEvents objects ms events
AreEvents objects _ _ = ⊥
