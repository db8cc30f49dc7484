-- A phase of a trial runs as its parts do.
use Rattle.std.proofs.Common.{◌≡◌, ℕ, List, [], ◌∷◌, ◌++◌, length, Result, sym, ap, subst, ◌∙◌}
use Rattle.std.specs.Prelude.{String}
use Rattle.std.specs.Global.{Global}
use Rattle.broker_steps.specs.declared.limits.Limits.{Limits}
use Rattle.trial_script.specs.declared.script.Script.{Script}
use Rattle.trial_script.specs.Scripts.{script_of}
use Rattle.trial_run.specs.declared.run.TrialEnd.{TrialEnd}
use Rattle.relay_model.specs.declared.role.Role.TheVariants.{App}
use Rattle.wl_wire.specs.Messages.{messages}
use Rattle.broker_model.specs.declared.journal.Entry.TheVariants as entries
use Rattle.broker_core.specs.Broker.{Broker}
use Rattle.trial_run.specs.declared.stop.Stop.{Stop}
use Rattle.trial_run.specs.declared.whose.Whose.{Whose}
use Rattle.trial_run.specs.declared.whose.Whose.TheVariants as whose
use Rattle.trial_run.specs.Ran.{went}
use Rattle.trial_run.specs.Steps.{stepped, joined, messages_sent, next_bytes}
use Rattle.trial_run.specs.Play.{FieldPlay, TrialPlay, new_field, number_of, to_send, hears}
use Rattle.trial_run.specs.Rounds.{with_broker, sends_waiting, sends, took, one_take}
use Rattle.trial_run.specs.Trial.{field_joined, trial_played, shown_by, trial_within, IsShown}
use Rattle.trial_run.specs.Working.{IsStop, IsStepped, IsHalt, IsRun, Stays}
use Rattle.trial_run.proofs.RunsInTurn.{run_goes, run_halts, broker_runs, shared_goes, shared_halts}

-- ---- what waits goes out

pub waiting_runs : (t s after : TrialPlay) (who w : Whose) (n : ℕ) (bytes : List ℕ) (b : Broker)
    (result : Result (Unit {0}) Stop) → t ≡ s → n ≡ number_of who → who ≡ w →
    bytes ≡ to_send w t → IsStepped (messages_sent n (messages bytes) t.broker) result b →
    after ≡ record t { broker = b } →
    IsRun (sends_waiting who s) result after
unfolding sends_waiting
waiting_runs t s after who w n bytes b result e i k d h a =
    let there : IsStepped (messages_sent (number_of who) (messages (to_send who t)) t.broker) result b =
    subst (λ k. IsStepped (messages_sent k (messages (to_send who t)) t.broker) result b) i
    (subst (λ (x : List ℕ). IsStepped (messages_sent n (messages x) t.broker) result b)
    (d ∙ ap (λ (x : Whose). to_send x t) (sym k)) h) in
    subst (λ (x : TrialPlay). IsRun (sends_waiting who x) result after) e
    (broker_runs t after (messages_sent (number_of who) (messages (to_send who t)) t.broker) b result there a)

-- ---- one take

took_by : (t s : TrialPlay) (who : Whose) (n : ℕ) (b : Broker) → t ≡ s → n ≡ number_of who →
    stepped (entries.Took n (length (next_bytes n t.broker))) t.broker ≡ went b →
    took who s ≡ went (record t { broker = b })
unfolding took
took_by t s who n b e i h =
    let q : ℕ = number_of who in
    shared_goes t s (λ (x : Broker). stepped (entries.Took q (length (next_bytes q x))) x) b e
    (ap (λ k. stepped (entries.Took k (length (next_bytes k t.broker))) t.broker) (sym i) ∙ h)

pub one_take_runs : (t s after heard : TrialPlay) (who : Whose) (n : ℕ) (b : Broker) (bytes : List ℕ)
    (result : Result (Unit {0}) Stop) → t ≡ s → n ≡ number_of who →
    stepped (entries.Took n (length (next_bytes n t.broker))) t.broker ≡ went b → bytes ≡ next_bytes n t.broker →
    heard ≡ hears who bytes (record t { broker = b }) → IsRun (sends who heard) result after →
    IsRun (one_take who s) result after
unfolding one_take
one_take_runs t s after heard who n b bytes result e i h k d r =
    let same : bytes ≡ next_bytes (number_of who) s.broker =
    k ∙ ap (λ m. next_bytes m t.broker) i ∙ ap (λ (x : TrialPlay). next_bytes (number_of who) x.broker) e in
    let mid : TrialPlay = record t { broker = b } in
    run_goes (took who s) mid after (λ now. sends who (hears who (next_bytes (number_of who) s.broker) now)) result
    (took_by t s who n b e i h)
    (subst (λ (x : TrialPlay). IsRun (sends who x) result after)
    (d ∙ ap (λ (x : List ℕ). hears who x mid) same) r)

pub one_take_halts : (t s after : TrialPlay) (who : Whose) (n : ℕ) (stop : Stop) → t ≡ s → n ≡ number_of who →
    IsStop (stepped (entries.Took n (length (next_bytes n t.broker))) t.broker) stop → after.shown ≡ t.shown →
    IsHalt (one_take who s) stop after
unfolding one_take took
one_take_halts t s after who n stop e i h a =
    let q : ℕ = number_of who in
    run_halts (took who s) (λ now. sends who (hears who (next_bytes q s.broker) now)) stop after
    (shared_halts t s after (λ (x : Broker). stepped (entries.Took q (length (next_bytes q x))) x) stop e
    (subst (λ k. IsStop (stepped (entries.Took k (length (next_bytes k t.broker))) t.broker) stop) i h) a)

-- ---- one more field

pub join_runs : (t s after : TrialPlay) (b : Broker) (fields : List FieldPlay) (k : ℕ) (x : FieldPlay)
    (result : Result (Unit {0}) Stop) → t ≡ s → joined App t.broker ≡ went b → k ≡ length t.fields → x ≡ new_field →
    fields ≡ t.fields ++ x ∷ [] →
    IsRun (sends (whose.Field k) (record t { broker = b; fields = fields })) result after →
    IsRun (field_joined s) result after
unfolding field_joined
join_runs t s after b fields k x result e h i n f r =
    let mid : TrialPlay = record t { broker = b } in
    let with : fields ≡ t.fields ++ new_field ∷ [] = f ∙ ap (λ (y : FieldPlay). t.fields ++ y ∷ []) n in
    let at : k ≡ length s.fields = i ∙ ap (λ (y : TrialPlay). length y.fields) e in
    run_goes (with_broker s (joined App s.broker)) mid after
    (λ now. sends (whose.Field (length s.fields)) (record now { fields = now.fields ++ new_field ∷ [] })) result
    (shared_goes t s (joined App) b e h)
    (subst (λ j. IsRun (sends (whose.Field j) (record mid { fields = t.fields ++ new_field ∷ [] })) result after) at
    (subst (λ (y : List FieldPlay). IsRun (sends (whose.Field k) (record mid { fields = y })) result after) with r))

-- ---- the trial stays one with as many fields

pub stays_on : (a b c : TrialPlay) → Stays a b → Stays b c → Stays a c
stays_on a b c x y = record { most = y.most ∙ x.most; fields = y.fields ∙ x.fields }

-- ---- a whole script

pub script_shown : (limits : Limits) (bytes : List ℕ) (s : Script) (result : Result (String Global) TrialEnd) →
    s ≡ script_of bytes → IsShown (shown_by s.ending (trial_played limits s)) result →
    IsShown (trial_within limits bytes) result
script_shown limits bytes s result e h =
    subst (λ (x : Script). IsShown (shown_by x.ending (trial_played limits x)) result) e h
