-- A field that isn't paused heard all that was put for its peer.
use Rattle.std.proofs.Common.{◌≡◌, ℕ, zero, suc, ◌+◌, ◌≤◌, ◌<◌, Bool, true, false, not, ◌&&◌, List, length, drop, Option, Some, refl, sym, ap, subst, ◌∙◌, arith}
use Rattle.std.specs.Prelude.{◌==◌, option_map}
use Rattle.std.specs.List.{slice_get}
use Rattle.std.proofs.lemmas.List.{length-drop, take_all}
use Rattle.std.proofs.lemmas.Bool.{and_parts, eqb-true, eqb-false}
use Rattle.broker_steps.specs.declared.limits.Limits.{Limits}
use Rattle.broker_model.specs.Ids.{Joined, peer_at}
use Rattle.broker_model.specs.Out.{out_for}
use Rattle.broker_model.specs.Resolve.{past_of}
use Rattle.trial_run.specs.declared.whose.Whose.TheVariants as whose
use Rattle.trial_run.specs.Ran.{Ran}
use Rattle.trial_run.specs.Steps.{bytes_in, stored_for, has_stored}
use Rattle.trial_run.specs.Play.{FieldPlay, TrialPlay, pause_in}
use Rattle.trial_run.specs.Rounds.{is_due, fields_quiet, is_quiet}
use Rattle.trial_laws.specs.FieldLogs.{bytes_taken}
use Rattle.trial_laws.specs.TrialLaws.{UnpausedHearAll}
use Rattle.trial_laws.proofs.RoundsEnd.{rounds_end_quiet}
use Rattle.trial_laws.proofs.TextsFolded.{within_list, limits_same}

pub not_is : (b : Bool) → not b ≡ true → b ≡ false
not_is true e = cc
not_is false e = refl

quiet_at : (n j k : ℕ) (t : TrialPlay) → fields_quiet n j t ≡ true → j ≤ k → k < j + n →
    is_due (whose.Field k) t ≡ false
unfolding fields_quiet
quiet_at zero j k t q low high = absurd (omega arith)
quiet_at (suc n) j k t q low high =
    let parts = and_parts (not (is_due (whose.Field j) t)) (fields_quiet n (j + 1) t) q in
    by (j == k) refl parts.0 (λ l. quiet_at n (j + 1) k t parts.1 l (omega arith))
  where
    by : (b : Bool) → (j == k) ≡ b → not (is_due (whose.Field j) t) ≡ true →
        (j + 1 ≤ k → is_due (whose.Field k) t ≡ false) → is_due (whose.Field k) t ≡ false
    by true e first later =
        subst (λ i. is_due (whose.Field i) t ≡ false) (eqb-true j k e) (not_is (is_due (whose.Field j) t) first)
    by false e first later = later (omega (arith, eqb-false j k e))

none_stored : (k : ℕ) (t : TrialPlay) (field : FieldPlay) → slice_get t.fields k ≡ Some field →
    field.is_paused ≡ false →
    is_due (whose.Field k) t ≡ false → has_stored (k + 2) t.broker ≡ false
unfolding is_due
none_stored k t field is going due =
    sym (ap (λ (b : Bool). not b && has_stored (k + 2) t.broker)
    (ap (λ (o : Option FieldPlay). pause_in o) is ∙ going)) ∙ due

pub all_taken : (t : TrialPlay) (q : ℕ) (peer : Joined) → peer_at (past_of t.broker.journal) q ≡ Some peer →
    has_stored q t.broker ≡ false →
    bytes_taken t.broker.limits.store t.broker.journal peer.label
    ≡ (out_for t.broker.limits.store t.broker.journal peer.label).put.bytes
unfolding has_stored
all_taken t q peer joined none =
    let store : ℕ = t.broker.limits.store in
    let put : List ℕ = (out_for store t.broker.journal peer.label).put.bytes in
    let taken : ℕ = (out_for store t.broker.journal peer.label).taken in
    let same : stored_for q t.broker ≡ drop taken put =
    ap (λ (o : Option Joined). bytes_in (option_map (λ (p : Joined). out_for store t.broker.journal p.label) o))
    joined in
    let empty : length (stored_for q t.broker) ≡ 0 =
    eqb-true (length (stored_for q t.broker)) 0 (still (length (stored_for q t.broker) == 0) none) in
    let left : length (drop taken put) ≡ 0 = sym (ap length same) ∙ empty in
    take_all taken put (let l = length-drop taken put in omega arith)
  where
    still : (b : Bool) → not b ≡ false → b ≡ true
    still true e = refl
    still false e = cc

pub unpaused_hear_all : UnpausedHearAll
unfolding is_quiet
unpaused_hear_all limits script first more t k field peer a some e is going joined =
    let quiet : is_quiet t ≡ true = rounds_end_quiet limits script first more t a some e in
    let fields : fields_quiet (length t.fields) 0 t ≡ true =
    (and_parts (not (is_due whose.Method t)) (fields_quiet (length t.fields) 0 t) quiet).1 in
    let due : is_due (whose.Field k) t ≡ false =
    quiet_at (length t.fields) 0 k t fields (omega arith) (let l = within_list t.fields k field is in omega arith) in
    let limited : t.broker.limits ≡ limits =
    subst (λ (r : Ran TrialPlay). r.now.broker.limits ≡ limits) e (limits_same limits script) in
    subst (λ (l : Limits). bytes_taken l.store t.broker.journal peer.label
    ≡ (out_for l.store t.broker.journal peer.label).put.bytes) limited
    (all_taken t (k + 2) peer joined (none_stored k t field is going due))
