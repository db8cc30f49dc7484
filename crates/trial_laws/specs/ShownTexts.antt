-- What any bytes show as a script: texts that the fields' own users and the method typed.
use Rattle.std.specs.Prelude.{◌≡◌, ℕ, ◌+◌, ◌-◌, ◌==◌, List, [], ◌∷◌, ◌++◌, length, take, Bool, true, false, if◌then◌else◌, Some}
use Rattle.std.specs.List.{slice_get, Contains}
use Rattle.wl_wire.specs.Messages.{messages}
use Rattle.broker_steps.specs.declared.limits.Limits.{Limits}
use Rattle.broker_steps.specs.Ranges.{IsWithin}
use Rattle.relay_model.specs.declared.act.EndCause.TheVariants.{Full}
use Rattle.trial_field.specs.Log.{no_edits}
use Rattle.client_side.specs.Happenings.{Happening}
use Rattle.client_side.specs.FieldLog.{text_of}
use Rattle.trial_script.specs.declared.action.Action.{Action}
use Rattle.trial_script.specs.declared.action.Action.TheVariants.{Pause, Resume, Show}
use Rattle.trial_script.specs.Scripts.{script_of}
use Rattle.broker_model.specs.declared.journal.Entry.TheVariants.{End}
use Rattle.broker_model.specs.Ids.{Joined, peer_at}
use Rattle.broker_model.specs.Resolve.{past_of}
use Rattle.trial_run.specs.Ran.{went}
use Rattle.trial_run.specs.Play.{TrialPlay}
use Rattle.trial_run.specs.Lines.{show_line}
use Rattle.trial_run.specs.Trial.{trial_within}
use Rattle.trial_laws.specs.FieldLogs.{edits_in, told_in, bytes_taken, events_in, happenings, own_edits, trial_to, lines_to}
use Rattle.trial_laws.specs.RelayedBatches.{batches_in, IsFrontOf, IsFieldOf, HasMadeField}
use Rattle.trial_laws.specs.RelayedAsBatches.{batches_of}

-- whether the field with the index k is paused behind an action, where it was so before or not;
-- actions number fields from 1
abbrev pub is_paused_by : Action → ℕ → Bool → Bool
is_paused_by (Pause f) k before = if f - 1 == k then true else before
is_paused_by (Resume f) k before = if f - 1 == k then false else before
is_paused_by _ k before = before

-- whether it is so behind actions
abbrev pub is_paused_from : List Action → ℕ → Bool → Bool
is_paused_from [] k before = before
is_paused_from (action ∷ more) k before = is_paused_from more k (is_paused_by action k before)

-- the last action that pauses or resumes the field pauses it
abbrev pub is_paused_behind : List Action → ℕ → Bool
is_paused_behind all k = is_paused_from all k false

-- The action with the index n shows the field f, one of the script's, in the trial t that the
-- actions before it play. Behind what these show stands the line of the field with the text of a
-- log. The log's own edits are those of these actions for the field, all and in order; the rest of
-- it is what the events make happen that the one journal tells the field's peer, as far as its
-- client took their bytes. Its batches are a front of those that the journal relays to the field:
-- all of them, unless the last of these actions that pauses or resumes it pauses it, or a group
-- that didn't fit ended its peer. The peer made the field, unless it ended; there are none where it
-- made none.
pub record IsShownText (limits : Limits) (bytes : List ℕ) (n f : ℕ) (t : TrialPlay) : Type 0 where
  pub named : IsWithin (script_of bytes).fields f
  pub log : List Happening
  pub later : List ℕ
  pub shown : (trial_within limits bytes).lines
      ≡ lines_to n limits (script_of bytes) ++ show_line f (text_of log) ++ later
  pub own : edits_in log ≡ own_edits (take n (script_of bytes).actions) (f - 1)
  pub peer : Joined
  pub joined : peer_at (past_of t.broker.journal) (f + 1) ≡ Some peer
  pub made : HasMadeField t.broker.journal (f + 1) peer.label
  pub told : told_in log
      ≡ happenings (events_in (messages (bytes_taken limits.store t.broker.journal peer.label)))
      no_edits
  pub front : (object : ℕ) → IsFieldOf t.broker.journal peer.label object →
      IsFrontOf (batches_in (told_in log)) (batches_of t.broker.journal object)
  pub all : (object : ℕ) → IsFieldOf t.broker.journal peer.label object →
      is_paused_behind (take n (script_of bytes).actions) (f - 1) ≡ false →
      (Contains t.broker.journal (End (f + 1) Full) → ⊥) →
      batches_in (told_in log) ≡ batches_of t.broker.journal object
  pub none : ((object : ℕ) → IsFieldOf t.broker.journal peer.label object → ⊥) →
      batches_in (told_in log) ≡ []

-- What the bytes show is a line for each `show` that the trial comes to, in turn; each is such a
-- text.
pub record AreShownTexts (limits : Limits) (bytes : List ℕ) : Type 0 where
  pub lines : (trial_within limits bytes).lines
      ≡ lines_to (length (script_of bytes).actions) limits (script_of bytes)
  pub each : (n f : ℕ) (t : TrialPlay) →
      slice_get (script_of bytes).actions n ≡ Some (Show f) →
      trial_to n limits (script_of bytes) ≡ went t →
      IsShownText limits bytes n f t

-- so it is of all bytes
abbrev pub ShownTextsAreBatches : Type 0
ShownTextsAreBatches = (limits : Limits) (bytes : List ℕ) → AreShownTexts limits bytes
