-- A trial at work: what the clauses of its phases say.
use Rattle.std.specs.Prelude.{◌≡◌, ◌<◌, ◌≤◌, List, length, true, Result, Ok, Err}
use Rattle.broker_steps.specs.declared.step.Step.{Step}
use Rattle.broker_steps.specs.declared.step.Step.TheVariants as steps
use Rattle.broker_model.specs.declared.journal.Entry.{Entry}
use Rattle.broker_core.specs.Broker.{Broker, kept_in}
use Rattle.broker_core.specs.Taking.{standing_of}
use Rattle.broker_core.specs.declared.taking.Standing.TheVariants.{Alive}
use Rattle.trial_run.specs.declared.stop.Stop.{Stop}
use Rattle.trial_run.specs.declared.stop.Stop.TheVariants as stops
use Rattle.trial_run.specs.declared.whose.Whose.{Whose}
use Rattle.trial_run.specs.declared.whose.Whose.TheVariants as whose
use Rattle.trial_run.specs.Ran.{Ran, went}
use Rattle.trial_run.specs.Play.{TrialPlay}

-- the peer of the step is alive, if it is a peer's
abbrev pub IsThere : Step → List Entry → Type 0
IsThere (steps.Peer q step) journal = standing_of journal q ≡ Alive
IsThere _ journal = Unit {0}

-- the steps met a full journal, which holds so much; or memory was short
abbrev pub IsStop : Ran Broker → Stop → Type 0
IsStop r (stops.Full kept) = (r.is_full ≡ true) × (kept ≡ kept_in r.now.journal)
IsStop r stops.NoMemory = Unit {0}

-- the shared state was led to where the steps lead, or it stopped
abbrev pub IsStepped : Ran Broker → Result (Unit {0}) Stop → Broker → Type 0
IsStepped r (Ok done) after = r ≡ went after
IsStepped r (Err stop) after = IsStop r stop

-- the same of a trial; where it stopped, it was shown what was to be shown
abbrev pub IsHalt : Ran TrialPlay → Stop → TrialPlay → Type 0
IsHalt r (stops.Full kept) after =
    (r.is_full ≡ true) × (kept ≡ kept_in r.now.broker.journal) × (after.shown ≡ r.now.shown)
IsHalt r stops.NoMemory after = Unit {0}

abbrev pub IsRun : Ran TrialPlay → Result (Unit {0}) Stop → TrialPlay → Type 0
IsRun r (Ok done) after = r ≡ went after
IsRun r (Err stop) after = IsHalt r stop after

-- the client is there, of at most 16
abbrev pub HasClient : Whose → TrialPlay → Type 0
HasClient whose.Method t = Unit {0}
HasClient (whose.Field k) t = (k < length t.fields) × (length t.fields ≤ 16)

-- its peer's number fits
abbrev pub IsNumbered : Whose → Type 0
IsNumbered whose.Method = Unit {0}
IsNumbered (whose.Field k) = k < 16

-- the trial has as many fields as before
pub record Stays (old new : TrialPlay) : Type 0 where
  pub most : new.most ≡ old.most
  pub fields : length new.fields ≡ length old.fields
