-- How a generated session begins: its peers join, and each sends its set-up messages.
use Rattle.std.specs.Prelude.{ℕ, List, [], ◌∷◌, ◌++◌, map}
use Rattle.wl_proto.specs.declared.interface.Interface.TheVariants.{Compositor, Seat, TextInputManager, InputMethodManager}
use Rattle.wl_proto.specs.declared.request.Request.TheVariants.{GetRegistry, CreateSurface, GetTextInput, GetInputMethod}
use Rattle.wl_proto.specs.Rows.{request_message}
use Rattle.relay_model.specs.declared.role.Role.TheVariants.{App, Method}
use Rattle.broker_steps.specs.declared.step.Step.{Step}
use Rattle.broker_steps.specs.declared.step.Step.TheVariants as steps
use Rattle.session_gen.specs.Sending.{sends, bind}
pub use Rattle.wl_proto.specs.Sent.{Sent, to}

-- an app peer gets a surface 6 and a text input 7
abbrev pub app_messages : List Sent
app_messages =
    to 1 (request_message (GetRegistry 2))
    ∷ to 2 (bind 1 Compositor 3)
    ∷ to 2 (bind 2 Seat 4)
    ∷ to 2 (bind 3 TextInputManager 5)
    ∷ to 3 (request_message (CreateSurface 6))
    ∷ to 5 (request_message (GetTextInput 7 4))
    ∷ []

-- the method peer gets an input method 5
abbrev pub method_messages : List Sent
method_messages =
    to 1 (request_message (GetRegistry 2))
    ∷ to 2 (bind 2 Seat 3)
    ∷ to 2 (bind 4 InputMethodManager 4)
    ∷ to 4 (request_message (GetInputMethod 3 5))
    ∷ []

abbrev pub sent_by : ℕ → Sent → Step
sent_by p s = sends p s.object s.message

abbrev pub app_steps : ℕ → List Step
app_steps p = steps.Join App ∷ map (sent_by p) app_messages

abbrev pub method_steps : ℕ → List Step
method_steps p = steps.Join Method ∷ map (sent_by p) method_messages

-- four app peers, and then the method
unfoldable pub setup : List Step
setup = app_steps 1 ++ (app_steps 2 ++ (app_steps 3 ++ (app_steps 4 ++ method_steps 5)))
