-- What the groups that are relayed to a field tell its client.
use Rattle.std.specs.Prelude.{◌≡◌, ℕ, ◌^◌, ◌<◌, ◌≤◌, List, [], ◌∷◌, ◌++◌, length, Some, None, true, FitsSigned}
use Rattle.std.specs.Int.{w32}
use Rattle.wl_wire.specs.Texts.{is_text}
use Rattle.wl_wire.specs.Messages.{messages}
use Rattle.relay_model.specs.declared.said.Said.{Said}
use Rattle.trial_field.specs.Log.{Batch, no_edits}
use Rattle.client_side.specs.Happenings.{Happening, edited, batch, entered, left}
use Rattle.relay_model.specs.Batch as relay
use Rattle.broker_model.specs.declared.journal.Entry.{Entry}
use Rattle.broker_model.specs.Ids.{Made, made_as}
use Rattle.broker_model.specs.Groups.{said_piece}
use Rattle.broker_model.specs.Resolve.{past_of}
use Rattle.broker_core.specs.Stands.{end_of}
use Rattle.trial_laws.specs.FieldLogs.{events_in, happenings}

-- the batches, in order
abbrev pub batches_in : List Happening → List Happening
batches_in [] = []
batches_in (batch edits serial ∷ more) = batch edits serial ∷ batches_in more
batches_in (edited edit ∷ more) = batches_in more
batches_in (entered ∷ more) = batches_in more
batches_in (left ∷ more) = batches_in more

-- what a group's events make happen, as their spellings to the text input 7 are read
abbrev pub group_told : List Said → List Happening
group_told group =
    batches_in (happenings (events_in (messages (said_piece [] 7 group).bytes)) no_edits)

abbrev pub groups_told : List (List Said) → List Happening
groups_told [] = []
groups_told (group ∷ more) = group_told group ++ groups_told more

-- the second list begins with the first
pub record IsFrontOf {A : Type 0} (front whole : List A) : Type 0 where
  pub rest : List A
  pub is : front ++ rest ≡ whole

-- the field f is the one that the peer with the label p made under the id by which its client knows
-- its text input
pub record IsFieldOf (journal : List Entry) (p f : ℕ) : Type 0 where
  pub made : Made
  pub is : made_as (past_of journal).made f ≡ Some made
  pub own : made.peer ≡ p
  pub input : made.id ≡ 7

-- the peer with the number q and the label p made its field, unless it ended
abbrev pub HasMadeField : List Entry → (q p : ℕ) → Type 0
HasMadeField journal q p = end_of journal q ≡ None → (f : ℕ) × IsFieldOf journal p f

-- the edits of a batch, as a field takes them
abbrev pub edits_of : relay.Batch → Batch
edits_of b = record {
  before = b.deletion.before;
  after = b.deletion.after;
  string = b.string;
  preedit = b.preedit.text;
  begin = b.preedit.begin;
  end = b.preedit.end;
}

-- the numbers of the batch and of its done have 32 bits, and its texts are texts of the protocol
-- and fit a message
pub record IsSayable (b : relay.Batch) (n : ℕ) : Type 0 where
  pub before : b.deletion.before < 2 ^ 32
  pub after : b.deletion.after < 2 ^ 32
  pub string : is_text b.string ≡ true
  pub string_fits : length b.string ≤ 4083
  pub preedit : is_text b.preedit.text ≡ true
  pub preedit_fits : length b.preedit.text ≤ 4075
  pub begin : FitsSigned w32 b.preedit.begin
  pub end : FitsSigned w32 b.preedit.end
  pub serial : n < 2 ^ 32
