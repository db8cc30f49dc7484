-- What a request asks: its object arguments, its new id, and the act that it is.
use Rattle.std.specs.Prelude.{ℕ, List, [], ◌∷◌, ◌==◌, if◌then◌else◌, Option, Some, None, unwrap_or}
use Rattle.std.specs.List.{slice_get}
use Rattle.wl_proto.specs.declared.interface.Interface.{Interface}
use Rattle.wl_proto.specs.declared.interface.Interface.TheVariants as interface
use Rattle.wl_proto.specs.Grammar.{Value, word, signed, text, token}
use Rattle.relay_model.specs.declared.act.Act.{Act}
use Rattle.relay_model.specs.declared.act.Act.TheVariants as acts
use Rattle.relay_model.specs.declared.role.Role.{Role}

-- an argument that names an object or a new one, and the interface of that
pub record Argument : Type 0 where
  pub id : ℕ
  pub interface : Interface

-- an id with an interface
abbrev pub argument : Interface → ℕ → Argument
argument i id = record { id = id; interface = i }

-- the arguments of a request that name objects, with the interfaces that the row names
abbrev pub arguments_of : Interface → ℕ → List Value → List Argument
arguments_of interface.TextInputManager opcode (word id ∷ word seat ∷ []) =
    argument interface.Seat seat ∷ []
arguments_of interface.InputMethodManager opcode (word seat ∷ word id ∷ []) =
    argument interface.Seat seat ∷ []
arguments_of interface.VirtualKeyboardManager opcode (word seat ∷ word id ∷ []) =
    argument interface.Seat seat ∷ []
arguments_of interface.InputMethod opcode (word id ∷ word surface ∷ []) =
    (if opcode == 4 then argument interface.Surface surface ∷ [] else [])
arguments_of _ _ _ = []

-- the interface of the global with a name
abbrev pub global_at : ℕ → Interface
global_at name =
    (if name == 1 then interface.Compositor
    else (if name == 2 then interface.Seat
    else (if name == 3 then interface.TextInputManager
    else (if name == 4 then interface.InputMethodManager else interface.VirtualKeyboardManager))))

-- the new id of a request, with the interface of what is made; a pointer, a keyboard or a touch is
-- never made
abbrev pub new_of : Interface → ℕ → List Value → Option Argument
new_of interface.Display opcode (word id ∷ []) =
    Some (argument (if opcode == 0 then interface.Callback else interface.Registry) id)
new_of interface.Registry opcode (word name ∷ text t ∷ word version ∷ word id ∷ []) =
    Some (argument (global_at name) id)
new_of interface.Compositor opcode (word id ∷ []) = Some (argument interface.Surface id)
new_of interface.Seat opcode (word id ∷ []) = Some (argument interface.Seat id)
new_of interface.TextInputManager opcode (word id ∷ word seat ∷ []) =
    Some (argument interface.TextInput id)
new_of interface.InputMethodManager opcode (word seat ∷ word id ∷ []) =
    Some (argument interface.InputMethod id)
new_of interface.InputMethod opcode (word id ∷ word surface ∷ []) =
    (if opcode == 4 then Some (argument interface.InputPopupSurface id) else None)
new_of interface.InputMethod opcode (word id ∷ []) =
    (if opcode == 5 then Some (argument interface.KeyboardGrab id) else None)
new_of interface.VirtualKeyboardManager opcode (word seat ∷ word id ∷ []) =
    Some (argument interface.VirtualKeyboard id)
new_of _ _ _ = None

-- the acts of requests with arguments, of the field, the method or the board x

abbrev pub surround : ℕ → List Value → Act
surround x (text t ∷ signed cursor ∷ signed anchor ∷ []) = acts.Surround x t cursor anchor
surround x _ = acts.Idle

abbrev pub cause : ℕ → List Value → Act
cause x (word n ∷ []) = acts.Cause x n
cause x _ = acts.Idle

abbrev pub content : ℕ → List Value → Act
content x (word hint ∷ word purpose ∷ []) = acts.Content x hint purpose
content x _ = acts.Idle

abbrev pub cursor : ℕ → List Value → Act
cursor x (signed left ∷ signed top ∷ signed width ∷ signed height ∷ []) =
    acts.Cursor x (record { x = left; y = top; width = width; height = height })
cursor x _ = acts.Idle

abbrev pub string : ℕ → List Value → Act
string x (text t ∷ []) = acts.MString x t
string x _ = acts.Idle

abbrev pub preedit : ℕ → List Value → Act
preedit x (text t ∷ signed begin ∷ signed end ∷ []) = acts.MPreedit x t begin end
preedit x _ = acts.Idle

abbrev pub delete : ℕ → List Value → Act
delete x (word before ∷ word after ∷ []) = acts.MDelete x before after
delete x _ = acts.Idle

abbrev pub commit : ℕ → List Value → Act
commit x (word serial ∷ []) = acts.MCommit x serial
commit x _ = acts.Idle

abbrev pub keymap : ℕ → List Value → Act
keymap x (word format ∷ token t ∷ word size ∷ []) =
    acts.VKeymap x (record { format = format; token = t; size = size })
keymap x _ = acts.Idle

abbrev pub key : ℕ → List Value → Act
key x (word time ∷ word code ∷ word state ∷ []) = acts.VKey x time code state
key x _ = acts.Idle

abbrev pub modifiers : ℕ → List Value → Act
modifiers x (word depressed ∷ word latched ∷ word locked ∷ word group ∷ []) =
    acts.VMods x
    (record { depressed = depressed; latched = latched; locked = locked; group = group })
modifiers x _ = acts.Idle

-- `at` gives the label of an id
abbrev pub popup : (ℕ → ℕ) → ℕ → List Value → Act
popup at x (word id ∷ word surface ∷ []) = acts.Popup x (at surface)
popup at x _ = acts.Idle

-- the seat is the global with the name 2
abbrev pub bind : ℕ → List Value → Act
bind p (word name ∷ vs) = (if name == 2 then acts.Seat p else acts.Thing p)
bind p _ = acts.Idle

-- the acts of an interface's requests by their opcodes, as far as they do something; sent by the
-- peer p with this role to its object x
abbrev pub rows : (p x : ℕ) → Role → (ℕ → ℕ) → Interface → List Value → List Act
rows p x role at interface.Display vs = acts.Sync p ∷ acts.Registry p role ∷ []
rows p x role at interface.Registry vs = bind p vs ∷ []
rows p x role at interface.Compositor vs = acts.Surface p ∷ []
rows p x role at interface.Surface vs = acts.Drop x ∷ []
rows p x role at interface.TextInputManager vs = acts.Drop x ∷ acts.Field p ∷ []
rows p x role at interface.TextInput vs =
    acts.Drop x ∷ acts.Enable x ∷ acts.Disable x ∷ surround x vs ∷ cause x vs ∷ content x vs
    ∷ cursor x vs ∷ acts.Commit x ∷ []
rows p x role at interface.InputMethodManager vs = acts.Method p ∷ acts.Drop x ∷ []
rows p x role at interface.InputMethod vs =
    string x vs ∷ preedit x vs ∷ delete x vs ∷ commit x vs ∷ popup at x vs ∷ acts.Grab x
    ∷ acts.Drop x ∷ []
rows p x role at interface.InputPopupSurface vs = acts.Drop x ∷ []
rows p x role at interface.KeyboardGrab vs = acts.Drop x ∷ []
rows p x role at interface.VirtualKeyboardManager vs = acts.VBoard p ∷ []
rows p x role at interface.VirtualKeyboard vs =
    keymap x vs ∷ key x vs ∷ modifiers x vs ∷ acts.Drop x ∷ []
rows p x role at _ vs = []

-- the act of a request that isn't refused
abbrev pub act_of : (p x : ℕ) → Role → (ℕ → ℕ) → Interface → ℕ → List Value → Act
act_of p x role at i opcode vs = unwrap_or (slice_get (rows p x role at i vs) opcode) acts.Idle
