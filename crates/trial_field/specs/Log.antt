-- What happens to a field: its log, the newest entry first.
use Rattle.std.specs.Prelude.{ℕ, ◌<◌, ◌≤◌, ℤ, pos, List, [], length, All}
use Rattle.trial_field.specs.declared.edits.Edit.{Edit}
use Rattle.trial_field.specs.declared.edits.Edit.TheVariants.{Insert, Left, Right, Rub}
use Rattle.trial_field.specs.declared.batch_view.BatchView.{BatchView}
use Rattle.trial_field.specs.declared.batch_view.TheConstants.{MAX_STRING, MAX_PREEDIT}

-- the edits that a method committed at once
pub record Batch : Type 0 where
  pub before : ℕ
  pub after : ℕ
  pub string : List ℕ
  pub preedit : List ℕ
  pub begin : ℤ
  pub end : ℤ

-- a batch without edits
abbrev pub no_edits : Batch
no_edits = record { before = 0; after = 0; string = []; preedit = []; begin = pos 0; end = pos 0 }

-- an edit of the field's own user, or a batch that a done ended
pub data Entry : Type 0 where
  inserted : List ℕ → Entry
  went_left : Entry
  went_right : Entry
  rubbed : Entry
  done : Batch → Entry

abbrev pub entry_of : Edit → Entry
entry_of (Insert text) = inserted text.now
entry_of Left = went_left
entry_of Right = went_right
entry_of Rub = rubbed

abbrev pub batch_of : BatchView → Batch
batch_of b =
    record {
      before = b.before;
      after = b.after;
      string = b.string.now;
      preedit = b.preedit.now;
      begin = b.begin;
      end = b.end;
    }

-- a text of the protocol has no zero byte
abbrev pub HasNoZero : List ℕ → Type 0
HasNoZero text = All (λ b. 0 < b) text

-- an inserted text has no zero byte
abbrev pub IsEdit : Edit → Type 0
IsEdit (Insert text) = HasNoZero text.now
IsEdit Left = Unit {0}
IsEdit Right = Unit {0}
IsEdit Rub = Unit {0}

-- the texts of a batch fit a message, and have no zero byte
pub record IsBatch (batch : BatchView) : Type 0 where
  pub string_fits : length batch.string.now ≤ MAX_STRING
  pub preedit_fits : length batch.preedit.now ≤ MAX_PREEDIT
  pub string_clean : HasNoZero batch.string.now
  pub preedit_clean : HasNoZero batch.preedit.now
