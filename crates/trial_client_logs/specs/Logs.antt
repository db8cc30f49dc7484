-- The log of a field as its job writes it down, and as the definitions of clients have it
use Rattle.std.specs.Prelude.{◌≤◌, List, [], ◌∷◌, ◌++◌, length}
use Rattle.trial_field.specs.Log as field
use Rattle.trial_field.specs.Log.{Batch}
use Rattle.trial_field.specs.declared.batch_view.TheConstants.{MAX_STRING, MAX_PREEDIT}
use Rattle.trial_script.specs.declared.action.FieldEdit.{FieldEdit}
use Rattle.trial_script.specs.declared.action.FieldEdit.TheVariants as edit
use Rattle.trial_script.specs.declared.action.Edits.{Edits}
use Rattle.client_side.specs.Happenings.{Happening, edited, batch, entered, left}
use Rattle.trial_client_logs.specs.declared.entry.FieldEntry.{FieldEntry}
use Rattle.trial_client_logs.specs.declared.entry.FieldEntry.TheVariants as entries

-- an edit of the field's own user, as its text has it
abbrev pub edit_of : FieldEdit → field.Entry
edit_of (edit.Insert text) = field.inserted text
edit_of edit.Left = field.went_left
edit_of edit.Right = field.went_right
edit_of edit.Rub = field.rubbed

-- edits that are committed at once, as a field takes them
abbrev pub batch_of : Edits → Batch
batch_of b = record {
  before = b.before;
  after = b.after;
  string = b.string;
  preedit = b.preedit;
  begin = b.begin;
  end = b.end;
}

-- the texts are no longer than a message has room for
abbrev pub FitsMessages : Edits → Type 0
FitsMessages b = (length b.string ≤ MAX_STRING) × (length b.preedit ≤ MAX_PREEDIT)

abbrev pub IsEntry : FieldEntry → Type 0
IsEntry (entries.Batch edits serial) = FitsMessages edits
IsEntry _ = Unit {0}

-- what an entry says
abbrev pub happening_of : FieldEntry → Happening
happening_of (entries.Own e) = edited (edit_of e)
happening_of (entries.Batch edits serial) = batch (batch_of edits) serial
happening_of entries.Enter = entered
happening_of entries.Leave = left

-- the log, the newest first
abbrev pub field_log : List FieldEntry → List Happening
field_log [] = []
field_log (entry ∷ later) = field_log later ++ happening_of entry ∷ []
