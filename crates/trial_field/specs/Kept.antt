-- What a field keeps of its text, and what is always true of it.
use Rattle.std.specs.Prelude.{◌≤◌, take, drop, IsCharBoundary, string_bytes, string_len, string_capacity}
use Rattle.trial_field.specs.Log.{HasNoZero}
use Rattle.trial_field.specs.FieldText.{FieldText, text_limit}
use Rattle.trial_field.specs.declared.batch_view.TheConstants.{MAX_PREEDIT}
use Rattle.trial_field.specs.declared.field.TrialField.TheInside.{Inside}

abbrev pub seen : Inside → FieldText
seen f = record {
  before = take f.cursor (string_bytes f.text);
  behind = drop f.cursor (string_bytes f.text);
  preedit = string_bytes f.preedit;
}

-- the cursor cuts no character, and what may come has its room
pub record IsKept (f : Inside) : Type 0 where
  pub at_boundary : IsCharBoundary (string_bytes f.text) f.cursor
  pub text_fits : string_len f.text ≤ text_limit
  pub text_room : text_limit ≤ string_capacity f.text
  pub text_clean : HasNoZero (string_bytes f.text)
  pub preedit_fits : string_len f.preedit ≤ MAX_PREEDIT
  pub preedit_room : MAX_PREEDIT ≤ string_capacity f.preedit
  pub preedit_clean : HasNoZero (string_bytes f.preedit)
