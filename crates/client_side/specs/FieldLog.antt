-- A field by its log: its text, whether it is entered, how many commits it sent, and what it sent.
-- The newest comes first.
use Rattle.std.specs.Prelude.{ℕ, ◌+◌, ◌%◌, ◌^◌, ◌==◌, ◌&&◌, not, Bool, true, false, List, [], ◌∷◌, ◌++◌, length, nat_eq, if◌then◌else◌}
use Rattle.std.specs.Cmp.Lexicographic.{pointwise}
use Rattle.trial_field.specs.Log.{Entry, done}
use Rattle.trial_field.specs.FieldText.{FieldText, whole, after}
use Rattle.trial_field.specs.FieldText as field
use Rattle.client_side.specs.Messages.{Sent}
use Rattle.client_side.specs.Happenings.{Happening, edited, batch, entered, left}
use Rattle.client_side.specs.FieldSends.{change_sent, enable_sent}

pub record Field : Type 0 where
  pub text : FieldText
  pub is_entered : Bool
  pub commits : ℕ

-- a leave drops the preedit
abbrev pub text_after : Happening → FieldText → FieldText
text_after (edited edit) t = after edit t
text_after (batch edits serial) t = after (done edits) t
text_after entered t = t
text_after left t = record t { preedit = [] }

abbrev pub entered_after : Happening → Bool → Bool
entered_after (edited edit) now = now
entered_after (batch edits serial) now = now
entered_after entered now = true
entered_after left now = false

-- text and cursor are as before
abbrev pub is_same_place : FieldText → FieldText → Bool
is_same_place old new =
    pointwise nat_eq (whole new) (whole old) && (length new.before == length old.before)

-- the edit changes text or cursor
unfoldable pub changes : Entry → FieldText → Bool
changes edit t = not (is_same_place t (after edit t))

-- an own edit that changed something is sent while the field is entered; a batch is where its
-- serial is the count of commits
abbrev pub sent_for : Happening → Field → List Sent
sent_for (edited edit) f =
    if f.is_entered && changes edit f.text then change_sent 1 (after edit f.text) else []
sent_for (batch edits serial) f =
    if serial == f.commits then change_sent 0 (after (done edits) f.text) else []
sent_for entered f = enable_sent f.text
sent_for left f = []

-- whatever is sent ends with one commit; they are counted modulo 2^32
abbrev pub commits_after : List Sent → ℕ → ℕ
commits_after [] n = n
commits_after (s ∷ more) n = (n + 1) % 2 ^ 32

abbrev pub field_after : Happening → Field → Field
field_after h f = record {
  text = text_after h f.text;
  is_entered = entered_after h f.is_entered;
  commits = commits_after (sent_for h f) f.commits;
}

abbrev pub new_field : Field
new_field = record { text = field.text_of []; is_entered = false; commits = 0 }

-- the field after all that happened
abbrev pub field_of : List Happening → Field
field_of [] = new_field
field_of (h ∷ older) = field_after h (field_of older)

-- its text
abbrev pub text_of : List Happening → FieldText
text_of [] = field.text_of []
text_of (h ∷ older) = text_after h (text_of older)

-- all that it sent behind its set-up
abbrev pub sends_of : List Happening → List Sent
sends_of [] = []
sends_of (h ∷ older) = sends_of older ++ sent_for h (field_of older)
