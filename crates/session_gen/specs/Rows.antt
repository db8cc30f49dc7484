-- The step that a word of the generator draws.
use Rattle.std.specs.Prelude.{ℕ, pos, ◌+◌, ◌-◌, ◌/◌, ◌%◌, List, [], ◌∷◌, codes, slice_index_or}
use Rattle.wl_proto.specs.declared.request.Request.TheVariants as requests
use Rattle.wl_proto.specs.Rows.{request_message}
use Rattle.broker_steps.specs.declared.step.Step.{Step}
use Rattle.broker_steps.specs.declared.step.Step.TheVariants as steps
use Rattle.broker_steps.specs.declared.step.ShellStep.TheVariants as shells
use Rattle.session_gen.specs.declared.rows.Row.{Row}
use Rattle.session_gen.specs.declared.rows.Row.TheVariants.{Focus, Unfocus, Enable, Commit, SurroundingText, ChangeCause, CommitString, Preedit, Deletion, MethodCommit, Take}
use Rattle.session_gen.specs.Sending.{field_sends, method_sends, set_surrounding_text, commit_string, set_preedit_string}

-- a letter from a to z
abbrev pub letter : ℕ → List ℕ
letter v = (97 + v % 26) ∷ []

-- the rows of the digits 0 to 15
abbrev pub rows : List Row
rows =
    Focus ∷ Unfocus ∷ Enable ∷ Enable ∷ Commit ∷ Commit ∷ Commit ∷ SurroundingText
    ∷ ChangeCause ∷ CommitString ∷ CommitString ∷ Preedit ∷ Deletion ∷ MethodCommit ∷ MethodCommit
    ∷ Take ∷ []

-- the row of a word, by its lowest digit in base 16
unfoldable pub row_of : ℕ → Row
row_of word = slice_index_or rows (word % 16) Take

-- what a row means for the app peer a, the value v, and d done events put into the method's store
abbrev pub row_step : Row → ℕ → ℕ → ℕ → Step
row_step Focus a v d = steps.Shell (shells.Focus a 6)
row_step Unfocus a v d = steps.Shell shells.Unfocus
row_step Enable a v d = field_sends a (request_message requests.Enable)
row_step Commit a v d = field_sends a (request_message requests.TextInputCommit)
row_step SurroundingText a v d = field_sends a (set_surrounding_text (codes "ab") (pos (v % 3)))
row_step ChangeCause a v d = field_sends a (request_message (requests.SetTextChangeCause (v % 2)))
row_step CommitString a v d = method_sends (commit_string (letter v))
row_step Preedit a v d = method_sends (set_preedit_string (letter v) (pos 0) (pos 1))
row_step Deletion a v d = method_sends (request_message (requests.DeleteSurroundingText (v % 3) 0))
row_step MethodCommit a v d =
    method_sends (request_message (requests.InputMethodCommit (d - v % 4)))
row_step Take a v d = steps.Take (1 + v % 5) 4096

-- the peer and the value of a word
abbrev pub peer_of : ℕ → ℕ
peer_of word = 1 + (word / 256) % 4

abbrev pub value_of : ℕ → ℕ
value_of word = (word / 65536) % 256

-- the step that a word draws where d done events were put into the method's store so far
unfoldable pub drawn : ℕ → ℕ → Step
drawn word d = row_step (row_of word) (peer_of word) (value_of word) d
