-- What the one journal tells a field, and its log of it
use Rattle.std.specs.Prelude.{◌≡◌, ℕ, List, [], ◌++◌, Some}
use Rattle.broker_steps.specs.declared.limits.Limits.{Limits}
use Rattle.wl_wire.specs.Messages.{messages}
use Rattle.trial_field.specs.Log.{no_edits}
use Rattle.client_side.specs.FieldLog.{sends_of}
use Rattle.client_side.specs.Happenings.{Happening}
use Rattle.client_side.specs.Messages.{field_setup}
use Rattle.broker_model.specs.declared.journal.Entry.{Entry}
use Rattle.broker_model.specs.declared.journal.Entry.TheVariants as entries
use Rattle.broker_model.specs.Ids.{Joined, peer_at}
use Rattle.broker_model.specs.Out.{out_for}
use Rattle.broker_model.specs.Resolve.{past_of}
use Rattle.trial_laws.specs.FieldLogs.{told_in, events_in, happenings}
use Rattle.trial_laws.specs.RelayedBatches.{batches_in, IsFrontOf, IsFieldOf, HasMadeField}
use Rattle.trial_laws.specs.RelayedAsBatches.{batches_of}
use Rattle.trial_laws.specs.TypedLogs.{steps_by, steps_of}
use Rattle.trial_job_laws.specs.Passes.{HasEndIn, HasSentIn}

-- the enters, leaves and batches that the journal tells the field of the peer with the label p, in
-- order
abbrev pub told_to : (capacity : ℕ) → List Entry → (p : ℕ) → List Happening
told_to capacity journal p =
    happenings (events_in (messages (out_for capacity journal p).put.bytes)) no_edits

-- The log's enters, leaves and batches are a front of those that the journal tells the field of the
-- peer q; its batches are a front of those that the journal relays to the field, and there are none
-- where the peer made none. The peer's steps are the first of what the log sends behind its set-up.
pub record IsFieldTold (limits : Limits) (journal : List Entry) (q : ℕ)
    (log : List Happening) : Type 0 where
  pub peer : Joined
  pub joined : peer_at (past_of journal) q ≡ Some peer
  pub told : IsFrontOf (told_in log) (told_to limits.store journal peer.label)
  pub batches : (f : ℕ) → IsFieldOf journal peer.label f →
      IsFrontOf (batches_in (told_in log)) (batches_of journal f)
  pub none : ((f : ℕ) → IsFieldOf journal peer.label f → ⊥) → batches_in (told_in log) ≡ []
  pub sent : IsFrontOf (steps_by journal q) (steps_of q (field_setup ++ sends_of log))

-- so it is, and unless the peer ended the steps are all of that, and it made the field
pub record IsFieldToldAndSent (limits : Limits) (journal : List Entry) (q : ℕ)
    (log : List Happening) : Type 0 where
  pub told : IsFieldTold limits journal q log
  pub sent : HasSentIn journal q (field_setup ++ sends_of log)
  pub made : HasMadeField journal q told.peer.label

-- ---- all of it

-- an entry of another field, or one that no user made
abbrev pub IsQuiet : ℕ → Entry → Type 0
IsQuiet q (entries.Message k id opcode body) = (k ≡ q → ⊥) × (k ≡ 1 → ⊥)
IsQuiet q (entries.Shell step) = ⊥
IsQuiet q _ = Unit {0}

-- each peer but the first is a field's: its steps are the first of what some log sends behind the
-- set-up
abbrev pub OthersAreFields : List Entry → Type 0
OthersAreFields journal =
    (k : ℕ) (peer : Joined) → (k ≡ 1 → ⊥) → peer_at (past_of journal) k ≡ Some peer →
    (log : List Happening)
    × IsFrontOf (steps_by journal k) (steps_of k (field_setup ++ sends_of log))

-- The log has all that the journal tells the field of the peer q: each enter, leave and batch, in
-- order, and unless the peer ended all batches that the journal relays to the field.
pub record IsAllTold (limits : Limits) (journal : List Entry) (q : ℕ)
    (log : List Happening) : Type 0 where
  pub peer : Joined
  pub joined : peer_at (past_of journal) q ≡ Some peer
  pub told : told_in log ≡ told_to limits.store journal peer.label
  pub batches : (HasEndIn journal q → ⊥) → (f : ℕ) → IsFieldOf journal peer.label f →
      batches_in (told_in log) ≡ batches_of journal f
