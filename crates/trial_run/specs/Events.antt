-- The event that a message's row and values are.
use Rattle.std.specs.Prelude.{ℕ, zero, suc, List, [], ◌∷◌, Option, Some, None}
use Rattle.std.specs.Borrow.{Bor}
use Rattle.wl_proto.specs.declared.interface.Interface.TheVariants.{Display, Registry, Callback, Seat, TextInput, InputMethod, InputPopupSurface, KeyboardGrab}
use Rattle.wl_proto.specs.declared.event.Event.{Event}
use Rattle.wl_proto.specs.declared.event.Event.TheVariants as events
use Rattle.wl_proto.specs.Grammar.{Value, word, signed, text, null, token}
use Rattle.wl_proto.specs.Rows.{Message}

-- a text of an event
abbrev pub lent : List ℕ → Bor (List ℕ)
lent t = record { ref_ptr = (0, 0); now = t }

abbrev pub display_event : ℕ → List Value → Option Event
display_event zero (word object ∷ word code ∷ text m ∷ []) =
    Some (events.Error object code (lent m))
display_event (suc zero) (word id ∷ []) = Some (events.DeleteId id)
display_event _ _ = None

abbrev pub registry_event : ℕ → List Value → Option Event
registry_event zero (word name ∷ text interface ∷ word version ∷ []) =
    Some (events.Global name (lent interface) version)
registry_event (suc zero) (word name ∷ []) = Some (events.GlobalRemove name)
registry_event _ _ = None

abbrev pub callback_event : ℕ → List Value → Option Event
callback_event zero (word value ∷ []) = Some (events.CallbackDone value)
callback_event _ _ = None

abbrev pub seat_event : ℕ → List Value → Option Event
seat_event zero (word value ∷ []) = Some (events.Capabilities value)
seat_event _ _ = None

abbrev pub input_event : ℕ → List Value → Option Event
input_event zero (word surface ∷ []) = Some (events.Enter surface)
input_event (suc zero) (word surface ∷ []) = Some (events.Leave surface)
input_event (suc (suc zero)) (text t ∷ signed begin ∷ signed end ∷ []) =
    Some (events.PreeditString (Some (lent t)) begin end)
input_event (suc (suc zero)) (null ∷ signed begin ∷ signed end ∷ []) =
    Some (events.PreeditString None begin end)
input_event (suc (suc (suc zero))) (text t ∷ []) = Some (events.CommitString (Some (lent t)))
input_event (suc (suc (suc zero))) (null ∷ []) = Some (events.CommitString None)
input_event (suc (suc (suc (suc zero)))) (word before ∷ word behind ∷ []) =
    Some (events.DeleteSurroundingText before behind)
input_event (suc (suc (suc (suc (suc zero))))) (word serial ∷ []) =
    Some (events.TextInputDone serial)
input_event _ _ = None

abbrev pub method_event : ℕ → List Value → Option Event
method_event zero [] = Some events.Activate
method_event (suc zero) [] = Some events.Deactivate
method_event (suc (suc zero)) (text t ∷ word cursor ∷ word anchor ∷ []) =
    Some (events.SurroundingText (lent t) cursor anchor)
method_event (suc (suc (suc zero))) (word cause ∷ []) = Some (events.TextChangeCause cause)
method_event (suc (suc (suc (suc zero)))) (word hint ∷ word purpose ∷ []) =
    Some (events.ContentType hint purpose)
method_event (suc (suc (suc (suc (suc zero))))) [] = Some events.InputMethodDone
method_event (suc (suc (suc (suc (suc (suc zero)))))) [] = Some events.Unavailable
method_event _ _ = None

abbrev pub popup_event : ℕ → List Value → Option Event
popup_event zero (signed x ∷ signed y ∷ signed width ∷ signed height ∷ []) =
    Some (events.TextInputRectangle x y width height)
popup_event _ _ = None

abbrev pub grab_event : ℕ → List Value → Option Event
grab_event zero (word format ∷ token descriptor ∷ word size ∷ []) =
    Some (events.Keymap format descriptor size)
grab_event (suc zero) (word serial ∷ word time ∷ word key ∷ word state ∷ []) =
    Some (events.Key serial time key state)
grab_event (suc (suc zero))
    (word serial ∷ word depressed ∷ word latched ∷ word locked ∷ word group ∷ []) =
    Some (events.Modifiers serial depressed latched locked group)
grab_event (suc (suc (suc zero))) (signed rate ∷ signed delay ∷ []) =
    Some (events.RepeatInfo rate delay)
grab_event _ _ = None

-- by the interface of the object
abbrev pub event_of : Message → Option Event
event_of m = elim m.interface [
  | Display ↦ display_event m.opcode m.values
  | Registry ↦ registry_event m.opcode m.values
  | Callback ↦ callback_event m.opcode m.values
  | Seat ↦ seat_event m.opcode m.values
  | TextInput ↦ input_event m.opcode m.values
  | InputMethod ↦ method_event m.opcode m.values
  | InputPopupSurface ↦ popup_event m.opcode m.values
  | KeyboardGrab ↦ grab_event m.opcode m.values
  | _ ↦ None
]
