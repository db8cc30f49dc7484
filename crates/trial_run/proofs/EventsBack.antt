-- The event that a message is has that message.
use Rattle.std.proofs.Common.{◌≡◌, ℕ, zero, suc, List, [], ◌∷◌, Option, Some, None, sym, ap}
use Rattle.wl_proto.specs.declared.interface.Interface.{Interface}
use Rattle.wl_proto.specs.declared.interface.Interface.TheVariants.{Display, Registry, Callback, Seat, TextInput, InputMethod, InputPopupSurface, KeyboardGrab}
use Rattle.wl_proto.specs.declared.event.Event.{Event}
use Rattle.wl_proto.specs.Grammar.{Value, word, signed, text, null, token}
use Rattle.wl_proto.specs.Rows.{Message, message, event_message}
use Rattle.trial_run.specs.Events.{display_event, registry_event, callback_event, seat_event, input_event, method_event, popup_event, grab_event, event_of}

same_event : (x e : Event) → (let o : Option Event = Some x in o ≡ Some e) → event_message e ≡ event_message x
same_event x e h = ap event_message (let same : x ≡ e = cc in sym same)

no_event : {A : Type 0} (e : Event) → (let o : Option Event = None in o ≡ Some e) → A
no_event e h = cc

display_back : (n : ℕ) (vs : List Value) (e : Event) → display_event n vs ≡ Some e →
    event_message e ≡ message Display n vs
display_back zero (word object ∷ word code ∷ text m ∷ []) e h = same_event _ e h
display_back (suc zero) (word id ∷ []) e h = same_event _ e h
display_back _ _ e h = no_event e h

registry_back : (n : ℕ) (vs : List Value) (e : Event) → registry_event n vs ≡ Some e →
    event_message e ≡ message Registry n vs
registry_back zero (word name ∷ text interface ∷ word version ∷ []) e h = same_event _ e h
registry_back (suc zero) (word name ∷ []) e h = same_event _ e h
registry_back _ _ e h = no_event e h

callback_back : (n : ℕ) (vs : List Value) (e : Event) → callback_event n vs ≡ Some e →
    event_message e ≡ message Callback n vs
callback_back zero (word value ∷ []) e h = same_event _ e h
callback_back _ _ e h = no_event e h

seat_back : (n : ℕ) (vs : List Value) (e : Event) → seat_event n vs ≡ Some e → event_message e ≡ message Seat n vs
seat_back zero (word value ∷ []) e h = same_event _ e h
seat_back _ _ e h = no_event e h

input_back : (n : ℕ) (vs : List Value) (e : Event) → input_event n vs ≡ Some e →
    event_message e ≡ message TextInput n vs
input_back zero (word surface ∷ []) e h = same_event _ e h
input_back (suc zero) (word surface ∷ []) e h = same_event _ e h
input_back (suc (suc zero)) (text t ∷ signed begin ∷ signed end ∷ []) e h = same_event _ e h
input_back (suc (suc zero)) (null ∷ signed begin ∷ signed end ∷ []) e h = same_event _ e h
input_back (suc (suc (suc zero))) (text t ∷ []) e h = same_event _ e h
input_back (suc (suc (suc zero))) (null ∷ []) e h = same_event _ e h
input_back (suc (suc (suc (suc zero)))) (word before ∷ word behind ∷ []) e h = same_event _ e h
input_back (suc (suc (suc (suc (suc zero))))) (word serial ∷ []) e h = same_event _ e h
input_back _ _ e h = no_event e h

method_back : (n : ℕ) (vs : List Value) (e : Event) → method_event n vs ≡ Some e →
    event_message e ≡ message InputMethod n vs
method_back zero [] e h = same_event _ e h
method_back (suc zero) [] e h = same_event _ e h
method_back (suc (suc zero)) (text t ∷ word cursor ∷ word anchor ∷ []) e h = same_event _ e h
method_back (suc (suc (suc zero))) (word cause ∷ []) e h = same_event _ e h
method_back (suc (suc (suc (suc zero)))) (word hint ∷ word purpose ∷ []) e h = same_event _ e h
method_back (suc (suc (suc (suc (suc zero))))) [] e h = same_event _ e h
method_back (suc (suc (suc (suc (suc (suc zero)))))) [] e h = same_event _ e h
method_back _ _ e h = no_event e h

popup_back : (n : ℕ) (vs : List Value) (e : Event) → popup_event n vs ≡ Some e →
    event_message e ≡ message InputPopupSurface n vs
popup_back zero (signed x ∷ signed y ∷ signed width ∷ signed height ∷ []) e h = same_event _ e h
popup_back _ _ e h = no_event e h

grab_back : (n : ℕ) (vs : List Value) (e : Event) → grab_event n vs ≡ Some e →
    event_message e ≡ message KeyboardGrab n vs
grab_back zero (word format ∷ token descriptor ∷ word size ∷ []) e h = same_event _ e h
grab_back (suc zero) (word serial ∷ word time ∷ word key ∷ word state ∷ []) e h = same_event _ e h
grab_back (suc (suc zero)) (word serial ∷ word depressed ∷ word latched ∷ word locked ∷ word group ∷ []) e h =
    same_event _ e h
grab_back (suc (suc (suc zero))) (signed rate ∷ signed delay ∷ []) e h = same_event _ e h
grab_back _ _ e h = no_event e h

back_at : (i : Interface) (n : ℕ) (vs : List Value) (e : Event) → event_of (message i n vs) ≡ Some e →
    event_message e ≡ message i n vs
back_at Display n vs e h = display_back n vs e h
back_at Registry n vs e h = registry_back n vs e h
back_at Callback n vs e h = callback_back n vs e h
back_at Seat n vs e h = seat_back n vs e h
back_at TextInput n vs e h = input_back n vs e h
back_at InputMethod n vs e h = method_back n vs e h
back_at InputPopupSurface n vs e h = popup_back n vs e h
back_at KeyboardGrab n vs e h = grab_back n vs e h
back_at _ n vs e h = no_event e h

pub event_back : (m : Message) (e : Event) → event_of m ≡ Some e → event_message e ≡ m
event_back m e h = back_at m.interface m.opcode m.values e h
