-- What comes after steps that went on, or that stopped.
use Rattle.std.proofs.Common.{◌≡◌, Bool, true, Result, Ok, Err, sym, ap, subst, ◌∙◌}
use Rattle.std.specs.Prelude.{if◌then◌else◌}
use Rattle.broker_core.specs.Broker.{Broker}
use Rattle.trial_run.specs.declared.stop.Stop.{Stop}
use Rattle.trial_run.specs.declared.stop.Stop.TheVariants as stops
use Rattle.trial_run.specs.Ran.{Ran, went, ◌>>=◌}
use Rattle.trial_run.specs.Play.{TrialPlay}
use Rattle.trial_run.specs.Rounds.{with_broker}
use Rattle.trial_run.specs.Working.{IsStop, IsStepped, IsHalt, IsRun}

pub goes : {S : Type 0} (r : Ran S) (s : S) (next : S → Ran S) → r ≡ went s → (r >>= next) ≡ next s
goes {S} r s next e = ap (λ (x : Ran S). x >>= next) e

pub halts : {S : Type 0} (r : Ran S) (next : S → Ran S) → r.is_full ≡ true → (r >>= next) ≡ r
halts {S} r next e = ap (λ (b : Bool). if b then r else next r.now) e

-- ---- of the shared state

pub step_goes : (r : Ran Broker) (s after : Broker) (next : Broker → Ran Broker) (result : Result (Unit {0}) Stop) →
    r ≡ went s → IsStepped (next s) result after → IsStepped (r >>= next) result after
step_goes r s after next result e h = subst (λ (x : Ran Broker). IsStepped x result after) (sym (goes r s next e)) h

pub step_halts : (r : Ran Broker) (next : Broker → Ran Broker) (stop : Stop) → IsStop r stop → IsStop (r >>= next) stop
step_halts r next (stops.Full kept) h =
    subst (λ (x : Ran Broker). IsStop x (stops.Full kept)) (sym (halts r next h.0)) h
step_halts r next stops.NoMemory h = tt

-- ---- of a trial

pub run_goes : (r : Ran TrialPlay) (s after : TrialPlay) (next : TrialPlay → Ran TrialPlay)
    (result : Result (Unit {0}) Stop) → r ≡ went s → IsRun (next s) result after → IsRun (r >>= next) result after
run_goes r s after next result e h = subst (λ (x : Ran TrialPlay). IsRun x result after) (sym (goes r s next e)) h

pub run_halts : (r : Ran TrialPlay) (next : TrialPlay → Ran TrialPlay) (stop : Stop) (after : TrialPlay) →
    IsHalt r stop after → IsHalt (r >>= next) stop after
run_halts r next (stops.Full kept) after h =
    subst (λ (x : Ran TrialPlay). IsHalt x (stops.Full kept) after) (sym (halts r next h.0)) h
run_halts r next stops.NoMemory after h = tt

-- steps of the shared state alone

pub broker_goes : (t : TrialPlay) (r : Ran Broker) (b : Broker) → r ≡ went b →
    with_broker t r ≡ went (record t { broker = b })
broker_goes t r b e = ap (with_broker t) e

pub broker_halts : (t : TrialPlay) (r : Ran Broker) (stop : Stop) (after : TrialPlay) → IsStop r stop →
    after.shown ≡ t.shown → IsHalt (with_broker t r) stop after
broker_halts t r (stops.Full kept) after h e = (h.0, h.1, e)
broker_halts t r stops.NoMemory after h e = tt

pub broker_runs : (t after : TrialPlay) (r : Ran Broker) (b : Broker) (result : Result (Unit {0}) Stop) →
    IsStepped r result b → after ≡ record t { broker = b } → IsRun (with_broker t r) result after
broker_runs t after r b (Ok done) h e =
    ap (with_broker t) h ∙ ap went (sym e)
broker_runs t after r b (Err stop) h e = broker_halts t r stop after h (ap (λ (x : TrialPlay). x.shown) e)

pub shared_runs : (t s after : TrialPlay) (next : Broker → Ran Broker) (b : Broker) (result : Result (Unit {0}) Stop) →
    t ≡ s → IsStepped (next t.broker) result b → after ≡ record t { broker = b } →
    IsRun (with_broker s (next s.broker)) result after
shared_runs t s after next b result e h a =
    subst (λ (x : TrialPlay). IsRun (with_broker x (next x.broker)) result after) e
    (broker_runs t after (next t.broker) b result h a)

pub shared_goes : (t s : TrialPlay) (next : Broker → Ran Broker) (b : Broker) → t ≡ s → next t.broker ≡ went b →
    with_broker s (next s.broker) ≡ went (record t { broker = b })
shared_goes t s next b e h =
    ap (λ (x : TrialPlay). with_broker x (next x.broker)) (sym e) ∙ broker_goes t (next t.broker) b h

pub shared_halts : (t s after : TrialPlay) (next : Broker → Ran Broker) (stop : Stop) → t ≡ s →
    IsStop (next t.broker) stop → after.shown ≡ t.shown → IsHalt (with_broker s (next s.broker)) stop after
shared_halts t s after next stop e h a =
    subst (λ (x : TrialPlay). IsHalt (with_broker x (next x.broker)) stop after) e
    (broker_halts t (next t.broker) stop after h a)
