-- What a field's client sends to its text input.
use Rattle.std.specs.Prelude.{ℕ, pos, List, [], ◌∷◌}
use Rattle.wl_proto.specs.declared.request.Request.TheVariants as requests
use Rattle.wl_proto.specs.Rows.{Message, request_message}
use Rattle.trial_field.specs.FieldText.{FieldText}
use Rattle.client_side.specs.Messages.{Sent, to, set_surrounding_text}
use Rattle.client_side.specs.Window.{window_of, cursor_of}

-- a request to the text input
abbrev pub to_input : Message → Sent
to_input m = to 7 m

-- the window round the cursor
unfoldable pub surrounding : FieldText → Sent
surrounding t = to_input (set_surrounding_text (window_of t) (pos (cursor_of t)))

-- the text, why it changed (0 by the input method, 1 by the user), and a commit
abbrev pub change_sent : ℕ → FieldText → List Sent
change_sent cause t =
    surrounding t
    ∷ to_input (request_message (requests.SetTextChangeCause cause))
    ∷ to_input (request_message requests.TextInputCommit)
    ∷ []

-- the whole state, and a commit
abbrev pub enable_sent : FieldText → List Sent
enable_sent t =
    to_input (request_message requests.Enable)
    ∷ surrounding t
    ∷ to_input (request_message (requests.SetContentType 0 0))
    ∷ to_input (request_message (requests.SetCursorRectangle (pos 0) (pos 0) (pos 1) (pos 1)))
    ∷ to_input (request_message requests.TextInputCommit)
    ∷ []
