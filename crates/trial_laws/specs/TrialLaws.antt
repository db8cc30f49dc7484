-- The laws of trials.
use Rattle.std.specs.Prelude.{◌≡◌, ℕ, ◌+◌, ◌≤◌, List, [], ◌∷◌, length, Some, true, false}
use Rattle.std.specs.List.{slice_get}
use Rattle.broker_steps.specs.declared.limits.Limits.{Limits}
use Rattle.wl_wire.specs.Messages.{messages}
use Rattle.relay_model.specs.Batch.{Batch, group, relayed}
use Rattle.relay_model.specs.Idle as idle
use Rattle.trial_field.specs.Log.{no_edits}
use Rattle.client_side.specs.Happenings.{Happening, batch}
use Rattle.client_side.specs.FieldLog.{text_of}
use Rattle.trial_script.specs.declared.action.Action.{Action}
use Rattle.trial_script.specs.declared.script.Script.{Script}
use Rattle.broker_model.specs.declared.journal.Entry.{Entry}
use Rattle.broker_model.specs.Ids.{Joined, peer_at}
use Rattle.broker_model.specs.Resolve.{past_of, resolve}
use Rattle.broker_model.specs.Out.{out_for}
use Rattle.broker_model.specs.Queued.{queued}
use Rattle.broker_model.specs.Settle.{history, outer}
use Rattle.trial_run.specs.Ran.{went}
use Rattle.trial_run.specs.Play.{FieldPlay, TrialPlay}
use Rattle.trial_run.specs.Rounds.{is_quiet}
use Rattle.trial_run.specs.Trial.{trial_played}
use Rattle.trial_laws.specs.FieldLogs.{edits_in, told_in, bytes_taken, events_in, happenings, own_edits, lines_to}
use Rattle.trial_laws.specs.RelayedBatches.{batches_in, group_told, groups_told, IsFrontOf, IsFieldOf, HasMadeField, edits_of, IsSayable}

-- the journal of every trial is the history of its outer steps, wherever it stops
abbrev pub TrialHistory : Type 0
TrialHistory =
    (limits : Limits) (script : Script) →
    let journal =
    (trial_played limits script).now.broker.journal in
    history limits.store (outer journal) ≡ journal

-- after each action, unless the journal is full, nothing is stored for a client that isn't paused
abbrev pub RoundsEndQuiet : Type 0
RoundsEndQuiet =
    (limits : Limits) (script : Script) (first : Action) (more : List Action) (t : TrialPlay) →
    script.actions ≡ first ∷ more → 1 ≤ script.fields → trial_played limits script ≡ went t →
    is_quiet t ≡ true

-- What is shown is a line for each `show` in turn: the text that its field has in the trial that
-- the actions before it play.
abbrev pub ShownInTurn : Type 0
ShownInTurn =
    (limits : Limits) (script : Script) → 1 ≤ script.fields →
    (trial_played limits script).now.shown ≡ lines_to (length script.actions) limits script

-- The text of the field with the index k is the fold of a log. The log's own edits are those of the
-- script for that field, all and in order. The rest of it is what the events make happen that the
-- one journal tells the field's peer, as far as its client took their bytes.
pub record IsFolded (limits : Limits) (script : Script) (journal : List Entry) (k : ℕ)
    (field : FieldPlay)
    : Type 0 where
  pub log : List Happening
  pub text : field.client.state.field.text ≡ text_of log
  pub own : edits_in log ≡ own_edits script.actions k
  pub peer : Joined
  pub joined : peer_at (past_of journal) (k + 2) ≡ Some peer
  pub told : told_in log
      ≡ happenings (events_in (messages (bytes_taken limits.store journal peer.label))) no_edits

-- it is so for each field of every script that is played to its end
abbrev pub TextsAreFolds : Type 0
TextsAreFolds =
    (limits : Limits) (script : Script) (t : TrialPlay) (k : ℕ) (field : FieldPlay) →
    script.fields ≤ 16 → trial_played limits script ≡ went t → slice_get t.fields k ≡ Some field →
    IsFolded limits script t.broker.journal k field

-- the peer of each of its fields made it, unless the peer ended
abbrev pub FieldsAreMade : Type 0
FieldsAreMade =
    (limits : Limits) (script : Script) (t : TrialPlay) (k : ℕ) (field : FieldPlay)
    (peer : Joined) → script.fields ≤ 16 → trial_played limits script ≡ went t →
    slice_get t.fields k ≡ Some field → peer_at (past_of t.broker.journal) (k + 2) ≡ Some peer →
    HasMadeField t.broker.journal (k + 2) peer.label

-- So it is, and the batches of the log are a front of those that the one journal relays to the
-- field; there are none where the peer made no field.
pub record IsRelayed (limits : Limits) (script : Script) (journal : List Entry) (k : ℕ)
    (field : FieldPlay)
    : Type 0 where
  pub folded : IsFolded limits script journal k field
  pub batches : (f : ℕ) → IsFieldOf journal folded.peer.label f →
      IsFrontOf (batches_in (told_in folded.log))
      (groups_told (relayed (idle.history (resolve journal)) f))
  pub none : ((f : ℕ) → IsFieldOf journal folded.peer.label f → ⊥) →
      batches_in (told_in folded.log) ≡ []

abbrev pub TextsAreRelayed : Type 0
TextsAreRelayed =
    (limits : Limits) (script : Script) (t : TrialPlay) (k : ℕ) (field : FieldPlay) →
    script.fields ≤ 16 → trial_played limits script ≡ went t → slice_get t.fields k ≡ Some field →
    IsRelayed limits script t.broker.journal k field

-- After an action, a field that isn't paused heard all that was put for its peer, so only a paused
-- field is behind.
abbrev pub UnpausedHearAll : Type 0
UnpausedHearAll =
    (limits : Limits) (script : Script) (first : Action) (more : List Action) (t : TrialPlay)
    (k : ℕ)
    (field : FieldPlay) (peer : Joined) → script.actions ≡ first ∷ more → 1 ≤ script.fields →
    trial_played limits script ≡ went t →
    slice_get t.fields k ≡ Some field → field.is_paused ≡ false →
    peer_at (past_of t.broker.journal) (k + 2) ≡ Some peer →
    bytes_taken limits.store t.broker.journal peer.label
    ≡ (out_for limits.store t.broker.journal peer.label).put.bytes

-- Such a field, where nothing came that its client couldn't read, has all batches that were queued
-- for it: all that are relayed to it, or all but the last, for which its peer was ended.
abbrev pub UnpausedHaveAll : Type 0
UnpausedHaveAll =
    (limits : Limits) (script : Script) (first : Action) (more : List Action) (t : TrialPlay)
    (k : ℕ)
    (field : FieldPlay) → script.actions ≡ first ∷ more → 1 ≤ script.fields → script.fields ≤ 16 →
    trial_played limits script ≡ went t → slice_get t.fields k ≡ Some field →
    field.is_paused ≡ false →
    field.client.is_bad ≡ false →
    (folded : IsFolded limits script t.broker.journal k field) (f : ℕ) →
    IsFieldOf t.broker.journal folded.peer.label f →
    batches_in (told_in folded.log) ≡ groups_told (queued limits.store t.broker.journal f)

-- What a client reads in the spelling of a whole group is the batch, with the serial of its done.
abbrev pub GroupsAreRead : Type 0
GroupsAreRead =
    (b : Batch) (serial : ℕ) → IsSayable b serial →
    group_told (group b serial) ≡ batch (edits_of b) serial ∷ []
