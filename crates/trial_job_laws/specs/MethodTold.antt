-- What the one journal tells the method, and its log of it
use Rattle.std.specs.Prelude.{◌≡◌, ◌==◌, ◌++◌, ℕ, Bool, true, false, List, filter, Some}
use Rattle.std.specs.List.{AllByRecursion}
use Rattle.wl_proto.specs.declared.event.Event.{Event}
use Rattle.wl_proto.specs.declared.event.Event.TheVariants as events
use Rattle.broker_steps.specs.declared.limits.Limits.{Limits}
use Rattle.client_side.specs.MethodLog.{Happening}
use Rattle.broker_model.specs.declared.journal.Entry.{Entry}
use Rattle.broker_model.specs.declared.journal.Entry.TheVariants as entries
use Rattle.broker_model.specs.Ids.{Joined, peer_at}
use Rattle.broker_model.specs.Resolve.{past_of}
use Rattle.trial_laws.specs.RelayedBatches.{IsFrontOf}
use Rattle.trial_run.specs.declared.typist.TrialTypist.{TrialTypist}
use Rattle.trial_laws.specs.ToldEvents.{events_told}
use Rattle.trial_laws.specs.TypedLogs.{events_of, requests_of, steps_by, steps_of}
use Rattle.trial_job_laws.specs.Passes.{HasSentIn}

-- The log's events are a front of those that the journal's acts tell the method's peer, which is
-- the first, in order: each key of its grab, each activation and each done. The peer's steps are
-- the first of what the log asks for.
pub record IsMethodTold (limits : Limits) (journal : List Entry) (typist : TrialTypist)
    (log : List Happening) : Type 0 where
  pub peer : Joined
  pub joined : peer_at (past_of journal) 1 ≡ Some peer
  pub told : IsFrontOf (events_of log) (events_told limits.store journal peer.label)
  pub sent : IsFrontOf (steps_by journal 1) (steps_of 1 (requests_of typist log))

-- so it is, and the steps are all of that, unless the peer ended
pub record IsMethodToldAndSent (limits : Limits) (journal : List Entry) (typist : TrialTypist)
    (log : List Happening) : Type 0 where
  pub told : IsMethodTold limits journal typist log
  pub sent : HasSentIn journal 1 (requests_of typist log)

-- ---- up to the last take

abbrev pub is_key : Event → Bool
is_key (events.Key serial time key state) = true
is_key _ = false

-- the keys among events, in order
abbrev pub keys_of : List Event → List Event
keys_of es = filter is_key es

-- the entry takes bytes for the peer q
abbrev pub is_take_of : ℕ → Entry → Bool
is_take_of q (entries.Took k bytes) = k == q
is_take_of q _ = false

-- What was seen is a front of the journal, past which nothing is taken for the method's peer, so its
-- last take is among it. The log has the events that this front tells the peer, in order, and each
-- key that the whole journal tells it.
pub record HasKeys (limits : Limits) (journal seen : List Entry)
    (log : List Happening) : Type 0 where
  pub newer : List Entry
  pub is : journal ≡ newer ++ seen
  pub past : AllByRecursion (λ e. is_take_of 1 e ≡ false) newer
  pub peer : Joined
  pub joined : peer_at (past_of journal) 1 ≡ Some peer
  pub told : events_of log ≡ events_told limits.store seen peer.label
  pub keys : keys_of (events_of log) ≡ keys_of (events_told limits.store journal peer.label)
