-- The law of a whole trial in threads, of its script and of what it gives
use Rattle.std.specs.Prelude.{◌≡◌, ◌⊎◌, ◌≤◌, ◌<◌, ◌+◌, ◌%◌, ◌^◌, ℕ, List, ◌++◌, length, map, take, Some}
use Rattle.std.specs.List.{slice_get}
use Rattle.broker_steps.specs.declared.limits.Limits.{Limits}
use Rattle.broker_model.specs.declared.journal.Entry.{Entry}
use Rattle.broker_model.specs.declared.journal.Kept.{Kept}
use Rattle.broker_core.specs.Broker.{kept_in}
use Rattle.trial_client_logs.specs.MethodLog.{Happening}
use Rattle.trial_client_logs.specs.declared.entry.FieldEntry.{FieldEntry}
use Rattle.trial_client_logs.specs.Logs.{edit_of, batch_of, field_log}
use Rattle.trial_client_logs.specs.MethodLogs.{method_log}
use Rattle.trial_script.specs.declared.script.Script.{Script}
use Rattle.trial_script.specs.Scripts.{script_of}
use Rattle.trial_run.specs.Trial.{trial_limits, typist_of}
use Rattle.trial_laws.specs.TypedLogs.{batches_of}
use Rattle.trial_typing.specs.Fronts.{IsFrontOf}
use Rattle.trial_typing.specs.Happened as log
use Rattle.trial_jobs.specs.MethodLaw.{rounds}
use Rattle.trial_job_laws.specs.Passes.{HasEndIn}
use Rattle.trial_job_laws.specs.FieldTold.{IsFieldTold, IsFieldToldAndSent, IsAllTold}
use Rattle.trial_job_laws.specs.MethodTold.{IsMethodTold, IsMethodToldAndSent, HasKeys}
use Rattle.trial_job_laws.specs.ShellTold.{orders_of}
use Rattle.trial_threads.specs.declared.trial.ThreadTrial.{ThreadTrial}
use Rattle.trial_threads.specs.Users.{edits_in, batches_in, orders_in}
use Rattle.trial_threads.specs.Whole.{users_of, IsWhole, IsCut}

-- The log of the field with the index k has the script's edits for it, in order. The rest of it are
-- the enters, leaves and batches that the journal tells the field, in order, a front of these where
-- its peer ended; its peer's steps are its set-up and what the log sends, or a front of it there.
pub record IsToldField (s : Script) (journal : List Entry) (k : ℕ)
    (entries : List FieldEntry) : Type 0 where
  pub own : log.edits_in (field_log entries) ≡ map edit_of (edits_in (k + 1) s.actions)
  pub told : IsFieldToldAndSent trial_limits journal (k + 2) (field_log entries)
  pub all : (HasEndIn journal (k + 2) → ⊥) →
      IsAllTold trial_limits journal (k + 2) (field_log entries)

-- the method's log has all events that a front of the journal with the last take of its peer tells
-- the peer, in order, and each key that the whole journal tells it
pub record HasAllKeys (journal : List Entry) (log : List Happening) : Type 0 where
  pub seen : List Entry
  pub has : HasKeys trial_limits journal seen log

-- There is such a log for each field. The method's log has the script's first thousand batches, in
-- order, and the events that the journal tells its peer up to the last take, each key among them; a
-- front of each where the peer ended. The shell's orders in the journal are the script's.
pub record IsTold (s : Script) (t : ThreadTrial) : Type 0 where
  pub number : length t.logs ≡ s.fields
  pub fields_told : (k : ℕ) (entries : List FieldEntry) → slice_get t.logs k ≡ Some entries →
      IsToldField s t.session.journal.entries k entries
  pub batches : (batches_of (method_log t.method_log)
      ≡ map batch_of (take rounds (batches_in s.actions)))
      ⊎ (IsFrontOf (batches_of (method_log t.method_log))
      (map batch_of (take rounds (batches_in s.actions)))
      × HasEndIn t.session.journal.entries 1)
  pub method_told : IsMethodToldAndSent trial_limits t.session.journal.entries (typist_of s)
      (method_log t.method_log)
  pub keys : (HasEndIn t.session.journal.entries 1 → ⊥) →
      HasAllKeys t.session.journal.entries (method_log t.method_log)
  pub orders : orders_of t.session.journal.entries
      ≡ orders_in (s.first_line % 2 ^ 32) s.actions

-- it holds of every trial of a script that is read, where all jobs were done
abbrev pub WholesAreTold : Type 0
WholesAreTold =
    (bytes : List ℕ) (t : ThreadTrial) →
    IsWhole (typist_of (script_of bytes)) (users_of (script_of bytes)) t →
    IsTold (script_of bytes) t

-- ---- where the journal was full for a step

-- the log of the field with the index k has the first of the script's edits for it, and a front of
-- what the journal tells it; its peer's steps are the first of its set-up and of what the log sends
pub record IsCutField (s : Script) (journal : List Entry) (k : ℕ)
    (entries : List FieldEntry) : Type 0 where
  pub own : IsFrontOf (log.edits_in (field_log entries)) (map edit_of (edits_in (k + 1) s.actions))
  pub told : IsFieldTold trial_limits journal (k + 2) (field_log entries)

-- There is such a log for each field. The method's log has the first of the script's first thousand
-- batches, and a front of the events that the journal tells its peer, whose steps are the first of
-- what the log asks for. The shell's orders in the journal are the first of the script's.
pub record IsToldCut (s : Script) (t : ThreadTrial) : Type 0 where
  pub number : length t.logs ≡ s.fields
  pub fields_told : (k : ℕ) (entries : List FieldEntry) → slice_get t.logs k ≡ Some entries →
      IsCutField s t.session.journal.entries k entries
  pub batches : IsFrontOf (batches_of (method_log t.method_log))
      (map batch_of (take rounds (batches_in s.actions)))
  pub method_told : IsMethodTold trial_limits t.session.journal.entries (typist_of s)
      (method_log t.method_log)
  pub orders : IsFrontOf (orders_of t.session.journal.entries)
      (orders_in (s.first_line % 2 ^ 32) s.actions)

-- it holds of every trial of a script that is read, where the journal was full for a step
abbrev pub CutsAreTold : Type 0
CutsAreTold =
    (bytes : List ℕ) (kept : Kept) (t : ThreadTrial) →
    IsCut (typist_of (script_of bytes)) (users_of (script_of bytes)) kept t →
    IsToldCut (script_of bytes) t

-- A front of the journal holds so much, and its counted entries are at the limit, or its weight and
-- that of the heaviest step pass the limit.
pub record IsFullFront (limits : Limits) (journal : List Entry) (kept : Kept) : Type 0 where
  pub newer : List Entry
  pub seen : List Entry
  pub is : journal ≡ newer ++ seen
  pub holds : kept ≡ kept_in seen
  pub full : (limits.entries ≤ kept.entries) ⊎ (limits.weight < kept.weight + 4104)

-- so much a front of the session's journal held, in every such trial
abbrev pub CutsAreFull : Type 0
CutsAreFull =
    (bytes : List ℕ) (kept : Kept) (t : ThreadTrial) →
    IsCut (typist_of (script_of bytes)) (users_of (script_of bytes)) kept t →
    IsFullFront trial_limits t.session.journal.entries kept
