-- Why a message is refused: the first test that fails.
use Rattle.std.specs.Prelude.{ℕ, List, [], ◌∷◌, Bool, true, false, not, ◌&&◌, ◌||◌, ◌==◌, nat_lt, if◌then◌else◌, Option, Some, None, is_some}
use Rattle.std.specs.List.{list_any}
use Rattle.std.specs.Option.{option_or}
use Rattle.std.specs.Str.{bytes_eq}
use Rattle.wl_proto.specs.declared.interface.Interface.{Interface}
use Rattle.wl_proto.specs.declared.interface.Interface.TheVariants as interface
use Rattle.wl_proto.specs.declared.refuse.Refuse.{Refuse}
use Rattle.wl_proto.specs.declared.refuse.Refuse.TheVariants as refuse
use Rattle.wl_proto.specs.Grammar.{Value, word, text}
use Rattle.wl_proto.specs.Names.{name_of}
use Rattle.wl_proto.specs.Rows.{Message}
use Rattle.relay_model.specs.declared.role.Role.{Role}
use Rattle.relay_model.specs.declared.fault.Fault.{Fault}
use Rattle.relay_model.specs.declared.fault.Fault.TheVariants as fault
use Rattle.relay_model.specs.Objects.{has_popup}
use Rattle.relay_model.specs.Boards.{sends}
use Rattle.relay_model.specs.Globals.{offered}
use Rattle.broker_model.specs.Ids.{Made, Past, log_of, object_at, number_live}
use Rattle.broker_model.specs.Requests.{Argument, arguments_of, new_of}

-- the two have one name
abbrev pub is_interface : Interface → Interface → Bool
is_interface a b = bytes_eq (name_of a) (name_of b)

-- there is an object, and it is of the interface
abbrev pub is_of : Interface → Option Made → Bool
is_of i None = false
is_of i (Some m) = is_interface m.interface i

-- the argument names no live object of its interface
abbrev pub is_wrong : Past → ℕ → Argument → Bool
is_wrong past p a = not (is_of a.interface (object_at past p a.id))

-- the id is 0, in the server's range, or live
abbrev pub is_bad_id : Past → ℕ → ℕ → Bool
is_bad_id past p id = (id == 0) || nat_lt 4278190079 id || is_some (object_at past p id)

-- the fault, where the test holds
abbrev pub fault_if : Bool → Fault → Option Fault
fault_if true f = Some f
fault_if false f = None

-- an object argument is 0, isn't live, or is of another interface
abbrev pub argument_fault : Past → ℕ → List Argument → Option Fault
argument_fault past p arguments = fault_if (list_any (is_wrong past p) arguments) fault.Argument

-- 256 objects besides the display are the most
abbrev pub new_fault : Past → ℕ → Option Argument → Option Fault
new_fault past p None = None
new_fault past p (Some new) =
    option_or (fault_if (is_bad_id past p new.id) fault.NewId)
    (fault_if (nat_lt 255 (number_live past p)) fault.TooMany)

-- the role is offered a global under the name, and the text is the name of its interface
abbrev pub is_offered : Role → ℕ → List ℕ → Bool
is_offered role name t = list_any (λ g. (g.0 == name) && bytes_eq (name_of g.1) t) (offered role)

-- a board sends keys and modifiers once it has had a keymap
abbrev pub keymap_fault : Past → (x : ℕ) → Option Fault
keymap_fault past x = fault_if (not (sends (log_of past) x)) fault.NoKeymap

-- a key's state is 0, released, or 1, pressed (wl_keyboard.key_state)
abbrev pub state_fault : (state : ℕ) → Option Fault
state_fault state = fault_if (nat_lt 1 state) fault.Malformed

-- the fault of one request to the object x: a bind of what isn't offered, what the seat lacks, a
-- surface that has a popup, a key's state, and a board without a keymap
abbrev pub own_fault : Past → (x : ℕ) → Role → (ℕ → ℕ) → Interface → ℕ → List Value → Option Fault
own_fault past x role at interface.Registry opcode
    (word name ∷ text t ∷ word version ∷ word id ∷ []) =
    fault_if (not (is_offered role name t && (version == 1))) fault.Bind
own_fault past x role at interface.Seat opcode vs = Some fault.Capability
own_fault past x role at interface.InputMethod opcode (word id ∷ word surface ∷ []) =
    (if opcode == 4 then fault_if (has_popup (log_of past) (at surface)) fault.Role else None)
own_fault past x role at interface.VirtualKeyboard opcode (word time ∷ word key ∷ word state ∷ []) =
    option_or (state_fault state) (keymap_fault past x)
own_fault past x role at interface.VirtualKeyboard opcode
    (word depressed ∷ word latched ∷ word locked ∷ word group ∷ []) = keymap_fault past x
own_fault _ _ _ _ _ _ _ = None

-- the first fault of a request that was read: its object arguments, its new id, and what is its own
abbrev pub request_fault : Past → (p x : ℕ) → Role → (ℕ → ℕ) → Message → Option Fault
request_fault past p x role at m =
    option_or (argument_fault past p (arguments_of m.interface m.opcode m.values))
    (option_or (new_fault past p (new_of m.interface m.opcode m.values))
    (own_fault past x role at m.interface m.opcode m.values))

-- no row has the opcode, or the body spells no arguments of the row
abbrev pub refuse_fault : Refuse → Fault
refuse_fault refuse.Opcode = fault.Opcode
refuse_fault refuse.Malformed = fault.Malformed

-- the error is one of the object that the message went to, and else of the display
abbrev pub is_of_addressed : Fault → Bool
is_of_addressed fault.Capability = true
is_of_addressed fault.Role = true
is_of_addressed fault.NoKeymap = true
is_of_addressed _ = false
