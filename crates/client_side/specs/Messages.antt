-- Messages that clients send: each is a request to one of the client's objects.
use Rattle.std.specs.Prelude.{ℕ, List, [], ◌∷◌, ◌++◌}
use Rattle.wl_proto.specs.declared.interface.Interface.TheVariants.{Compositor, Seat, TextInputManager, InputMethodManager}
use Rattle.wl_proto.specs.declared.request.Request.TheVariants.{GetRegistry, CreateSurface, GetTextInput, GetInputMethod, GrabKeyboard}
use Rattle.wl_proto.specs.Rows.{message, request_message}
use Rattle.wl_proto.specs.Spelling.{message_bytes}
pub use Rattle.wl_proto.specs.Sent.{Sent, to, bind, set_surrounding_text, commit_string, set_preedit_string}

-- the spellings, one behind the other
abbrev pub spelled : List Sent → List ℕ
spelled [] = []
spelled (s ∷ more) = message_bytes s.object s.message ++ spelled more

-- the set-up of a field's client: a surface 6 and a text input 7
abbrev pub field_setup : List Sent
field_setup =
    to 1 (request_message (GetRegistry 2))
    ∷ to 2 (bind 1 Compositor 3)
    ∷ to 2 (bind 2 Seat 4)
    ∷ to 2 (bind 3 TextInputManager 5)
    ∷ to 3 (request_message (CreateSurface 6))
    ∷ to 5 (request_message (GetTextInput 7 4))
    ∷ []

-- the set-up of the method's client: an input method 5 and a keyboard grab 6
abbrev pub method_setup : List Sent
method_setup =
    to 1 (request_message (GetRegistry 2))
    ∷ to 2 (bind 2 Seat 3)
    ∷ to 2 (bind 4 InputMethodManager 4)
    ∷ to 4 (request_message (GetInputMethod 3 5))
    ∷ to 5 (request_message (GrabKeyboard 6))
    ∷ []
