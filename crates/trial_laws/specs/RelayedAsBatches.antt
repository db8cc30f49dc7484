-- Trials of scripts whose texts are of bytes: the batches that are relayed to a field, and that its
-- client has them.
use Rattle.std.specs.Prelude.{◌≡◌, ℕ, ◌+◌, ◌≤◌, List, [], ◌∷◌, ◌++◌, false, ◌&&◌, if◌then◌else◌, Some}
use Rattle.std.specs.Prelude.{All}
use Rattle.std.specs.List.{slice_get, Contains, AllByRecursion}
use Rattle.wl_wire.specs.Texts.{IsBytes}
use Rattle.broker_steps.specs.declared.limits.Limits.{Limits}
use Rattle.relay_model.specs.declared.act.Act.{Act}
use Rattle.relay_model.specs.declared.act.Act.TheVariants.{MCommit}
use Rattle.relay_model.specs.declared.act.EndCause.TheVariants.{Full}
use Rattle.relay_model.specs.Objects.{is_at}
use Rattle.relay_model.specs.Hold.{holder}
use Rattle.relay_model.specs.Activation.{fresh}
use Rattle.relay_model.specs.Batch as relay
use Rattle.relay_model.specs.Idle as idle
use Rattle.client_side.specs.Happenings.{Happening, batch}
use Rattle.trial_script.specs.declared.action.Action.{Action}
use Rattle.trial_script.specs.declared.action.Action.TheVariants as actions
use Rattle.trial_script.specs.declared.action.FieldEdit.TheVariants as edits
use Rattle.trial_script.specs.declared.script.Script.{Script}
use Rattle.trial_script.specs.Scripts.{script_of}
use Rattle.compose_method.specs.Table.{Table}
use Rattle.trial_run.specs.declared.typist.TrialTypist.{TrialTypist}
use Rattle.trial_run.specs.declared.typist.TrialTypist.TheVariants.{Compose, Dict}
use Rattle.broker_model.specs.declared.journal.Entry.{Entry}
use Rattle.broker_model.specs.declared.journal.Entry.TheVariants.{End}
use Rattle.broker_model.specs.Resolve.{resolve}
use Rattle.trial_run.specs.Ran.{went}
use Rattle.trial_run.specs.Play.{FieldPlay, TrialPlay}
use Rattle.trial_run.specs.Trial.{typist_of, trial_played}
use Rattle.broker_telling.specs.Sayable.{AreBytes}
use Rattle.trial_laws.specs.FieldLogs.{told_in}
use Rattle.trial_laws.specs.RelayedBatches.{batches_in, IsFrontOf, IsFieldOf, edits_of}
use Rattle.trial_laws.specs.TrialLaws.{IsFolded}

-- ---- scripts of bytes

-- the texts of the action are of bytes
abbrev pub HasByteTexts : Action → Type 0
HasByteTexts (actions.Batch b) = IsBytes b.string × IsBytes b.preedit
HasByteTexts (actions.Edit f (edits.Insert text)) = IsBytes text
HasByteTexts _ = Unit {0}

-- so are the texts of the table's keys
pub record AreByteKeys (t : Table) : Type 0 where
  pub singles : All (λ s. IsBytes s.text) t.singles
  pub entries : All (λ e. IsBytes e.text) t.entries

-- so are all texts that the method types, the words of a dictionary with them
abbrev pub TypesBytes : TrialTypist → Type 0
TypesBytes (Compose m) = AreByteKeys m.table
TypesBytes (Dict m) = AreByteKeys m.table × All (λ w. IsBytes w.text) m.dict.words

-- so are all texts of the script, those that its method types with them
pub record IsOfBytes (script : Script) : Type 0 where
  pub typist : TypesBytes (typist_of script)
  pub actions : AllByRecursion HasByteTexts script.actions

-- every script that is read is one
abbrev pub ScriptsAreOfBytes : Type 0
ScriptsAreOfBytes = (bytes : List ℕ) → IsOfBytes (script_of bytes)

-- in a trial of such a script each message has a body of bytes, wherever the trial stops
abbrev pub MessagesAreBytes : Type 0
MessagesAreBytes =
    (limits : Limits) (script : Script) → IsOfBytes script →
    AreBytes (trial_played limits script).now.broker.journal

-- ---- batches

-- the batch that the act commits, as the field f takes it, with the count of its done; no other act
-- has one
abbrev pub batch_by : Act → List Act → ℕ → List Happening
batch_by (MCommit m serial) older f =
    batch (edits_of (relay.batch older m)) (relay.commit_count older f) ∷ []
batch_by _ older f = []

-- the batches that a history relays to the field f, in order
abbrev pub relayed_batches : List Act → ℕ → List Happening
relayed_batches [] f = []
relayed_batches (act ∷ older) f =
    (if fresh act older && is_at (holder older) f
    then relayed_batches older f ++ batch_by act older f
    else relayed_batches older f)

-- the same, of a journal
abbrev pub batches_of : List Entry → ℕ → List Happening
batches_of journal f = relayed_batches (idle.history (resolve journal)) f

-- The text of the field is the fold of a log whose batches are a front of those that the one
-- journal relays to it; there are none where its peer made no field.
pub record IsBatched (limits : Limits) (script : Script) (journal : List Entry) (k : ℕ)
    (field : FieldPlay)
    : Type 0 where
  pub folded : IsFolded limits script journal k field
  pub batches : (f : ℕ) → IsFieldOf journal folded.peer.label f →
      IsFrontOf (batches_in (told_in folded.log)) (batches_of journal f)
  pub none : ((f : ℕ) → IsFieldOf journal folded.peer.label f → ⊥) →
      batches_in (told_in folded.log) ≡ []

-- so it is for each field of every script that is played to its end
abbrev pub TextsAreBatches : Type 0
TextsAreBatches =
    (limits : Limits) (script : Script) (t : TrialPlay) (k : ℕ) (field : FieldPlay) →
    script.fields ≤ 16 → trial_played limits script ≡ went t → slice_get t.fields k ≡ Some field →
    IsOfBytes script →
    IsBatched limits script t.broker.journal k field

-- to its client nothing came that it couldn't read
abbrev pub FieldsReadAll : Type 0
FieldsReadAll =
    (limits : Limits) (script : Script) (t : TrialPlay) (k : ℕ) (field : FieldPlay) →
    script.fields ≤ 16 → trial_played limits script ≡ went t → slice_get t.fields k ≡ Some field →
    IsOfBytes script →
    field.client.is_bad ≡ false

-- After an action, a field that isn't paused, and whose peer no group that didn't fit has ended,
-- has all batches that are relayed to it.
abbrev pub UnpausedHaveAllRelayed : Type 0
UnpausedHaveAllRelayed =
    (limits : Limits) (script : Script) (first : Action) (more : List Action) (t : TrialPlay)
    (k : ℕ)
    (field : FieldPlay) → script.actions ≡ first ∷ more → 1 ≤ script.fields → script.fields ≤ 16 →
    trial_played limits script ≡ went t → slice_get t.fields k ≡ Some field → IsOfBytes script →
    field.is_paused ≡ false →
    (Contains t.broker.journal (End (k + 2) Full) → ⊥) →
    (folded : IsFolded limits script t.broker.journal k field) (f : ℕ) →
    IsFieldOf t.broker.journal folded.peer.label f →
    batches_in (told_in folded.log) ≡ batches_of t.broker.journal f
