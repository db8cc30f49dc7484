-- The rows: which argument kinds each has, and which row and arguments a request or an event is.
use Rattle.std.specs.Prelude.{ℕ, List, [], ◌∷◌, Option}
use Rattle.std.specs.Option.{option_copied}
use Rattle.wl_proto.specs.Grammar.{Value, word, signed, text, token, string_value}
use Rattle.wl_proto.specs.declared.interface.Interface.{Interface}
use Rattle.wl_proto.specs.declared.interface.Interface.TheVariants.{Display, Registry, Callback, Compositor, Surface, Seat, TextInputManager, TextInput, InputMethodManager, InputMethod, InputPopupSurface, KeyboardGrab, VirtualKeyboardManager, VirtualKeyboard}
use Rattle.wl_proto.specs.declared.table.Kind.{Kind}
use Rattle.wl_proto.specs.declared.table.Sig.{Sig}
use Rattle.wl_proto.specs.Tables.{row}
use Rattle.wl_proto.specs.declared.table.TheConstants.{DISPLAY_REQUESTS, REGISTRY_REQUESTS, COMPOSITOR_REQUESTS, SURFACE_REQUESTS, SEAT_REQUESTS, TEXT_INPUT_MANAGER_REQUESTS, TEXT_INPUT_REQUESTS, INPUT_METHOD_MANAGER_REQUESTS, INPUT_METHOD_REQUESTS, INPUT_POPUP_SURFACE_REQUESTS, KEYBOARD_GRAB_REQUESTS, VIRTUAL_KEYBOARD_MANAGER_REQUESTS, VIRTUAL_KEYBOARD_REQUESTS, DISPLAY_EVENTS, REGISTRY_EVENTS, CALLBACK_EVENTS, SEAT_EVENTS, TEXT_INPUT_EVENTS, INPUT_METHOD_EVENTS, INPUT_POPUP_SURFACE_EVENTS, KEYBOARD_GRAB_EVENTS}
use Rattle.wl_proto.specs.declared.request.Request.{Request}
use Rattle.wl_proto.specs.declared.request.Request.TheVariants as request
use Rattle.wl_proto.specs.declared.event.Event.{Event}
use Rattle.wl_proto.specs.declared.event.Event.TheVariants as event

-- a row, named by its interface and opcode, and arguments
pub record Message : Type 0 where
  pub interface : Interface
  pub opcode : ℕ
  pub values : List Value

abbrev pub message : Interface → ℕ → List Value → Message
message i n vs = record { interface = i; opcode = n; values = vs }

-- the rows of an interface's requests
abbrev pub request_rows : Interface → List Sig
request_rows Display = DISPLAY_REQUESTS.rows
request_rows Registry = REGISTRY_REQUESTS.rows
request_rows Callback = []
request_rows Compositor = COMPOSITOR_REQUESTS.rows
request_rows Surface = SURFACE_REQUESTS.rows
request_rows Seat = SEAT_REQUESTS.rows
request_rows TextInputManager = TEXT_INPUT_MANAGER_REQUESTS.rows
request_rows TextInput = TEXT_INPUT_REQUESTS.rows
request_rows InputMethodManager = INPUT_METHOD_MANAGER_REQUESTS.rows
request_rows InputMethod = INPUT_METHOD_REQUESTS.rows
request_rows InputPopupSurface = INPUT_POPUP_SURFACE_REQUESTS.rows
request_rows KeyboardGrab = KEYBOARD_GRAB_REQUESTS.rows
request_rows VirtualKeyboardManager = VIRTUAL_KEYBOARD_MANAGER_REQUESTS.rows
request_rows VirtualKeyboard = VIRTUAL_KEYBOARD_REQUESTS.rows

-- the argument kinds of a request, by interface and opcode; none where no row has the opcode
abbrev pub request_kinds : Interface → ℕ → Option (List Kind)
request_kinds i opcode = row opcode (request_rows i)

-- the row of a request, and its arguments in the order of the row
abbrev pub request_message : Request → Message
request_message (request.Sync callback) = message Display 0 (word callback ∷ [])
request_message (request.GetRegistry registry) = message Display 1 (word registry ∷ [])
request_message (request.Bind name interface version id) =
    message Registry 0 (word name ∷ text interface.now ∷ word version ∷ word id ∷ [])
request_message (request.CreateSurface id) = message Compositor 0 (word id ∷ [])
request_message request.SurfaceDestroy = message Surface 0 []
request_message (request.Damage x y width height) =
    message Surface 2 (signed x ∷ signed y ∷ signed width ∷ signed height ∷ [])
request_message request.SurfaceCommit = message Surface 6 []
request_message (request.GetPointer id) = message Seat 0 (word id ∷ [])
request_message (request.GetKeyboard id) = message Seat 1 (word id ∷ [])
request_message (request.GetTouch id) = message Seat 2 (word id ∷ [])
request_message request.TextInputManagerDestroy = message TextInputManager 0 []
request_message (request.GetTextInput id seat) =
    message TextInputManager 1 (word id ∷ word seat ∷ [])
request_message request.TextInputDestroy = message TextInput 0 []
request_message request.Enable = message TextInput 1 []
request_message request.Disable = message TextInput 2 []
request_message (request.SetSurroundingText t cursor anchor) =
    message TextInput 3 (text t.now ∷ signed cursor ∷ signed anchor ∷ [])
request_message (request.SetTextChangeCause cause) = message TextInput 4 (word cause ∷ [])
request_message (request.SetContentType hint purpose) =
    message TextInput 5 (word hint ∷ word purpose ∷ [])
request_message (request.SetCursorRectangle x y width height) =
    message TextInput 6 (signed x ∷ signed y ∷ signed width ∷ signed height ∷ [])
request_message request.TextInputCommit = message TextInput 7 []
request_message (request.GetInputMethod seat method) =
    message InputMethodManager 0 (word seat ∷ word method ∷ [])
request_message request.InputMethodManagerDestroy = message InputMethodManager 1 []
request_message (request.CommitString t) = message InputMethod 0 (text t.now ∷ [])
request_message (request.SetPreeditString t begin end) =
    message InputMethod 1 (text t.now ∷ signed begin ∷ signed end ∷ [])
request_message (request.DeleteSurroundingText before after) =
    message InputMethod 2 (word before ∷ word after ∷ [])
request_message (request.InputMethodCommit serial) = message InputMethod 3 (word serial ∷ [])
request_message (request.GetInputPopupSurface id surface) =
    message InputMethod 4 (word id ∷ word surface ∷ [])
request_message (request.GrabKeyboard keyboard) = message InputMethod 5 (word keyboard ∷ [])
request_message request.InputMethodDestroy = message InputMethod 6 []
request_message request.InputPopupSurfaceDestroy = message InputPopupSurface 0 []
request_message request.KeyboardGrabRelease = message KeyboardGrab 0 []
request_message (request.CreateVirtualKeyboard seat id) =
    message VirtualKeyboardManager 0 (word seat ∷ word id ∷ [])
request_message (request.Keymap format d size) =
    message VirtualKeyboard 0 (word format ∷ token d ∷ word size ∷ [])
request_message (request.Key time key state) =
    message VirtualKeyboard 1 (word time ∷ word key ∷ word state ∷ [])
request_message (request.Modifiers depressed latched locked group) =
    message VirtualKeyboard 2 (word depressed ∷ word latched ∷ word locked ∷ word group ∷ [])
request_message request.VirtualKeyboardDestroy = message VirtualKeyboard 3 []

-- the rows of an interface's events
abbrev pub event_rows : Interface → List Sig
event_rows Display = DISPLAY_EVENTS.rows
event_rows Registry = REGISTRY_EVENTS.rows
event_rows Callback = CALLBACK_EVENTS.rows
event_rows Compositor = []
event_rows Surface = []
event_rows Seat = SEAT_EVENTS.rows
event_rows TextInputManager = []
event_rows TextInput = TEXT_INPUT_EVENTS.rows
event_rows InputMethodManager = []
event_rows InputMethod = INPUT_METHOD_EVENTS.rows
event_rows InputPopupSurface = INPUT_POPUP_SURFACE_EVENTS.rows
event_rows KeyboardGrab = KEYBOARD_GRAB_EVENTS.rows
event_rows VirtualKeyboardManager = []
event_rows VirtualKeyboard = []

-- the argument kinds of an event
abbrev pub event_kinds : Interface → ℕ → Option (List Kind)
event_kinds i opcode = row opcode (event_rows i)

-- the row of an event, and its arguments
abbrev pub event_message : Event → Message
event_message (event.Error object code m) =
    message Display 0 (word object ∷ word code ∷ text m.now ∷ [])
event_message (event.DeleteId id) = message Display 1 (word id ∷ [])
event_message (event.Global name interface version) =
    message Registry 0 (word name ∷ text interface.now ∷ word version ∷ [])
event_message (event.GlobalRemove name) = message Registry 1 (word name ∷ [])
event_message (event.CallbackDone value) = message Callback 0 (word value ∷ [])
event_message (event.Capabilities value) = message Seat 0 (word value ∷ [])
event_message (event.Enter surface) = message TextInput 0 (word surface ∷ [])
event_message (event.Leave surface) = message TextInput 1 (word surface ∷ [])
event_message (event.PreeditString t begin end) =
    message TextInput 2 (string_value (option_copied t) ∷ signed begin ∷ signed end ∷ [])
event_message (event.CommitString t) = message TextInput 3 (string_value (option_copied t) ∷ [])
event_message (event.DeleteSurroundingText before after) =
    message TextInput 4 (word before ∷ word after ∷ [])
event_message (event.TextInputDone serial) = message TextInput 5 (word serial ∷ [])
event_message event.Activate = message InputMethod 0 []
event_message event.Deactivate = message InputMethod 1 []
event_message (event.SurroundingText t cursor anchor) =
    message InputMethod 2 (text t.now ∷ word cursor ∷ word anchor ∷ [])
event_message (event.TextChangeCause cause) = message InputMethod 3 (word cause ∷ [])
event_message (event.ContentType hint purpose) =
    message InputMethod 4 (word hint ∷ word purpose ∷ [])
event_message event.InputMethodDone = message InputMethod 5 []
event_message event.Unavailable = message InputMethod 6 []
event_message (event.TextInputRectangle x y width height) =
    message InputPopupSurface 0 (signed x ∷ signed y ∷ signed width ∷ signed height ∷ [])
event_message (event.Keymap format d size) =
    message KeyboardGrab 0 (word format ∷ token d ∷ word size ∷ [])
event_message (event.Key serial time key state) =
    message KeyboardGrab 1 (word serial ∷ word time ∷ word key ∷ word state ∷ [])
event_message (event.Modifiers serial depressed latched locked group) =
    message KeyboardGrab 2
    (word serial ∷ word depressed ∷ word latched ∷ word locked ∷ word group ∷ [])
event_message (event.RepeatInfo rate delay) =
    message KeyboardGrab 3 (signed rate ∷ signed delay ∷ [])
