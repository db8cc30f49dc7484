-- The laws of a trial's method.
use Rattle.std.specs.Prelude.{◌≡◌, ℕ, suc, ◌≤◌, List, [], ◌∷◌, take, Some, true, false}
use Rattle.std.specs.List.{AllByRecursion, slice_get}
use Rattle.broker_steps.specs.declared.limits.Limits.{Limits}
use Rattle.broker_steps.specs.Ranges.{IsLimits}
use Rattle.wl_wire.specs.Messages.{messages}
use Rattle.compose_method.specs.Table.{IsTable}
use Rattle.dict_method.specs.Dictionary.{IsDictionary}
use Rattle.wl_proto.specs.declared.event.Event.{Event}
use Rattle.client_side.specs.MethodLog.{Happening, typist_of}
use Rattle.client_side.specs.MethodState.{log_after}
use Rattle.trial_script.specs.declared.action.Action.{Action}
use Rattle.trial_script.specs.declared.script.Script.{Script}
use Rattle.trial_script.specs.Grammar.{IsAction}
use Rattle.trial_script.specs.Scripts.{script_of}
use Rattle.broker_model.specs.Ids.{Joined, peer_at}
use Rattle.broker_model.specs.Out.{out_for}
use Rattle.broker_model.specs.Resolve.{past_of}
use Rattle.broker_core.specs.Taking.{lives}
use Rattle.trial_run.specs.Ran.{went}
use Rattle.trial_run.specs.Play.{TrialPlay}
use Rattle.trial_run.specs.Trial.{trial_limits, trial_played}
use Rattle.trial_run.specs.Trial as trial
use Rattle.trial_run.specs.Typists.{meanings_of}
use Rattle.trial_laws.specs.FieldLogs.{bytes_taken, trial_to}
use Rattle.trial_laws.specs.RelayedBatches.{IsFrontOf}
use Rattle.trial_laws.specs.RelayedAsBatches.{IsOfBytes}
use Rattle.trial_laws.specs.TypedLogs.{events_of, batches_of, requests_of, own_batches, with_batch, events_in, steps_by, steps_of}
use Rattle.trial_laws.specs.ToldEvents.{events_told}

-- ---- scripts

-- its rules of keys are a table and a dictionary, and its actions are such as lines can give
pub record IsWritten (script : Script) : Type 0 where
  pub table : IsTable script.rules.table
  pub dict : IsDictionary script.rules.dict
  pub actions : AllByRecursion IsAction script.actions

-- every script that is read is one
abbrev pub ScriptsAreWritten : Type 0
ScriptsAreWritten = (bytes : List ℕ) → IsWritten (script_of bytes)

-- ---- the method

-- The method typed by a log. The log's events are those that the one journal tells the method's
-- peer, as far as its client took their bytes, and its batches are the script's, all and in order.
-- The peer's steps are the requests that the log asks for, in order: all of them while it lives,
-- and the first of them where it ended.
pub record IsLogged (limits : Limits) (script : Script) (t : TrialPlay) : Type 0 where
  pub log : List Happening
  pub typist : t.method.state.typist ≡ typist_of meanings_of (trial.typist_of script) log
  pub own : batches_of log ≡ own_batches script.actions
  pub peer : Joined
  pub joined : peer_at (past_of t.broker.journal) 1 ≡ Some peer
  pub heard : events_of log
      ≡ events_in (messages (bytes_taken limits.store t.broker.journal peer.label))
  pub front : IsFrontOf (steps_by t.broker.journal 1)
      (steps_of 1 (requests_of (trial.typist_of script) log))
  pub all : lives t.broker.journal 1 ≡ true →
      steps_by t.broker.journal 1 ≡ steps_of 1 (requests_of (trial.typist_of script) log)

-- it is so of each script that is played to its end
abbrev pub MethodSendsItsLog : Type 0
MethodSendsItsLog =
    (limits : Limits) (script : Script) (t : TrialPlay) → 1 ≤ script.fields → IsWritten script →
    trial_played limits script ≡ went t →
    IsLogged limits script t

-- the log goes on with the batch of an action, where it is one, and then with events
pub record IsNext (action : Action) (old new : List Happening) : Type 0 where
  pub came : List Event
  pub is : new ≡ log_after came (with_batch action old)

-- The logs of a script's first actions, one action after the other: each goes on from the one
-- before, and is that of the trial which these actions play.
pub record LogsGoOn (limits : Limits) (script : Script) : Type 0 where
  pub log : ℕ → List Happening
  pub begins : log 0 ≡ []
  pub next : (n : ℕ) (action : Action) → slice_get script.actions n ≡ Some action →
      IsNext action (log n) (log (suc n))
  pub each : (n : ℕ) (t : TrialPlay) → trial_to n limits script ≡ went t →
      (logged : IsLogged limits (record script { actions = take n script.actions }) t)
      × (logged.log ≡ log n)

-- so it is of each such script too
abbrev pub MethodLogsGoOn : Type 0
MethodLogsGoOn =
    (limits : Limits) (script : Script) (t : TrialPlay) → 1 ≤ script.fields → IsWritten script →
    trial_played limits script ≡ went t →
    LogsGoOn limits script

-- the events of such a log are a front of those that the journal puts for the peer, in order and
-- once each
abbrev pub MethodHearsAFront : Type 0
MethodHearsAFront =
    (limits : Limits) (script : Script) (t : TrialPlay) (logged : IsLogged limits script t) →
    IsFrontOf (events_of logged.log)
    (events_in (messages (out_for limits.store t.broker.journal logged.peer.label).put.bytes))

-- after an action they are all of those
abbrev pub MethodHearsAll : Type 0
MethodHearsAll =
    (limits : Limits) (script : Script) (first : Action) (more : List Action) (t : TrialPlay) →
    script.actions ≡ first ∷ more → 1 ≤ script.fields → trial_played limits script ≡ went t →
    (logged : IsLogged limits script t) →
    events_of logged.log
    ≡ events_in (messages (out_for limits.store t.broker.journal logged.peer.label).put.bytes)

-- ---- what it is told

-- The bytes that are put for the method's peer spell the events that the journal's acts tell the
-- peer, each of them and no others, and its client met nothing that it can't read.
pub record IsTold (limits : Limits) (t : TrialPlay) (p : ℕ) : Type 0 where
  pub told : events_in (messages (out_for limits.store t.broker.journal p).put.bytes)
      ≡ events_told limits.store t.broker.journal p
  pub read : t.method.is_bad ≡ false

-- So it is in each trial of a script that lines can give, within lawful limits. So the log's events
-- are a front of those that are told, each key and each done among them, and all of them after an
-- action.
abbrev pub MethodHearsWhatIsTold : Type 0
MethodHearsWhatIsTold =
    (limits : Limits) (script : Script) (t : TrialPlay) (peer : Joined) → IsLimits limits →
    1 ≤ script.fields → IsWritten script → IsOfBytes script → trial_played limits script ≡ went t →
    peer_at (past_of t.broker.journal) 1 ≡ Some peer →
    IsTold limits t peer.label

-- ---- whatever bytes a script has

-- its method typed by logs, one action after the other, and was told what the acts say
pub record IsTyped (script : Script) (t : TrialPlay) : Type 0 where
  pub logs : LogsGoOn trial_limits script
  pub hears : (peer : Joined) → peer_at (past_of t.broker.journal) 1 ≡ Some peer →
      IsTold trial_limits t peer.label

-- it is so of every script with a field that is read and played to its end
abbrev pub TrialsAreTyped : Type 0
TrialsAreTyped =
    (bytes : List ℕ) (t : TrialPlay) → 1 ≤ (script_of bytes).fields →
    trial_played trial_limits (script_of bytes) ≡ went t →
    IsTyped (script_of bytes) t
