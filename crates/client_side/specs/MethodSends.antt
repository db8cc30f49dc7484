-- What the method's client sends to its input method.
use Rattle.std.specs.Prelude.{ℕ, ℤ, ◌&&◌, ◌==◌, List, [], ◌∷◌, ◌++◌, length, if◌then◌else◌}
use Rattle.wl_proto.specs.declared.request.Request.TheVariants as requests
use Rattle.wl_proto.specs.Rows.{Message, request_message}
use Rattle.trial_field.specs.Log.{Batch}
use Rattle.client_side.specs.Messages.{Sent, to, commit_string, set_preedit_string}
pub use Rattle.wl_proto.specs.Zero.{is_zero}

-- a request to the input method
abbrev pub to_method : Message → Sent
to_method m = to 5 m

-- a deletion unless both lengths are 0
abbrev pub deletion_sent : ℕ → ℕ → List Sent
deletion_sent before behind =
    if (before == 0) && (behind == 0) then []
    else to_method (request_message (requests.DeleteSurroundingText before behind)) ∷ []

-- a string unless it is empty
abbrev pub string_sent : List ℕ → List Sent
string_sent text = if length text == 0 then [] else to_method (commit_string text) ∷ []

-- a preedit unless it is empty and both cursors are 0
abbrev pub preedit_sent : List ℕ → ℤ → ℤ → List Sent
preedit_sent text begin end =
    if (length text == 0) && (is_zero begin && is_zero end) then []
    else to_method (set_preedit_string text begin end) ∷ []

-- the edits, and a commit with this serial
abbrev pub batch_sent : Batch → ℕ → List Sent
batch_sent b serial =
    deletion_sent b.before b.after
    ++ (string_sent b.string
    ++ (preedit_sent b.preedit b.begin b.end
    ++ (to_method (request_message (requests.InputMethodCommit serial)) ∷ [])))
