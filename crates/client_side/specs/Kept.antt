-- What a client keeps of the edits that wait: the room for the longest texts.
use Rattle.std.specs.Prelude.{◌≤◌, string_bytes, string_len, string_capacity}
use Rattle.trial_field.specs.Log.{Batch, HasNoZero}
use Rattle.trial_field.specs.declared.batch_view.TheConstants.{MAX_STRING, MAX_PREEDIT}
use Rattle.client_side.specs.declared.pending.Pending.TheInside.{Inside}

abbrev pub edits_of : Inside → Batch
edits_of p = record {
  before = p.before;
  after = p.after;
  string = string_bytes p.string;
  preedit = string_bytes p.preedit;
  begin = p.begin;
  end = p.end;
}

pub record IsReady (p : Inside) : Type 0 where
  pub string_room : MAX_STRING ≤ string_capacity p.string
  pub preedit_room : MAX_PREEDIT ≤ string_capacity p.preedit
  pub string_fits : string_len p.string ≤ MAX_STRING
  pub preedit_fits : string_len p.preedit ≤ MAX_PREEDIT
  pub string_clean : HasNoZero (string_bytes p.string)
  pub preedit_clean : HasNoZero (string_bytes p.preedit)
