-- The counts that a relay keeps say what a batch comes to.
use Rattle.std.proofs.Common.{◌≡◌, ℕ, zero, suc, ◌-◌, ◌%◌, ◌^◌, ◌<◌, ◌≤◌, List, [], ◌∷◌, length, Bool, true, false, Option, Some, None, ap, refl, sym, ◌∙◌, arith, inl, inr, get_or}
use Rattle.std.specs.Prelude.{if◌then◌else◌, ◌&&◌, min, nat_le, nat_lt, is_some, option_map, slice_get}
use Rattle.std.proofs.lemmas.Bool.{lt-ltb, le-ltb, cases_lt, eqb-true, true≢false}
use Rattle.relay_model.specs.declared.act.Act.{Act}
use Rattle.relay_model.specs.Objects.{is_at}
use Rattle.relay_model.specs.Hold.{holder}
use Rattle.relay_model.specs.Activation.{serving, dones, begun_of, begun_for, at_position, named, is_from}
use Rattle.relay_model.specs.Batch.{commit_count}
use Rattle.relay_model.proofs.ActsOrIdle.{IsHistory}
use Rattle.relay_model.proofs.ActivationLaws.{dones_few}
use Rattle.relay_model.specs.Serial.{named as position_named}
use Rattle.relay_model.proofs.DonesAgo.{before_last, named_is}
use Rattle.relay_core.specs.Stands.{dones_told, count_from, count_since}
use Rattle.relay_core.proofs.FreshByNumbers.{fresh_is}
use Rattle.relay_reasons.specs.declared.fate.Reason.TheVariants.{NotServing, EarlierActivation}
use Rattle.relay_reasons.specs.declared.fate.BatchFate.TheVariants.{Unrelayed}
use Rattle.relay_reasons.specs.Seat.{seat}
use Rattle.relay_reasons.specs.Fate.{named_fate, serving_fate, fate}
use Rattle.relay_reasons.specs.Counted.{dones_ago, reason_by, fate_unless, fate_to, fate_on}
use Rattle.relay_reasons.proofs.ActivationHeld.{activation_held}

-- the element at a place that is there
there : (xs : List ℕ) (i : ℕ) → i < length xs → slice_get xs i ≡ Some (get_or xs i 0)
there [] i h = absurd (omega arith)
there (x ∷ xs) zero h = refl
there (x ∷ xs) (suc i) h = there xs i (omega arith)

-- the done that a serial names, of a list of fewer than 2^32
named_ago : (ds : List ℕ) (s : ℕ) → length ds < 2 ^ 32 → s < 2 ^ 32 →
    at_position ds (position_named (length ds) s)
    ≡ at_position ds (before_last (length ds) (dones_ago (length ds % 2 ^ 32) s))
named_ago ds s l w =
    ap (at_position ds) (named_is (length ds) s (dones_ago (length ds % 2 ^ 32) s) w (omega arith) (omega arith))

-- named or not, by how many dones ago
by_named : (ds : List ℕ) (b f count since s ago : ℕ) (n : Option ℕ) → n ≡ at_position ds (before_last (length ds) ago) →
    is_from (Some b) n ≡ nat_lt ago since →
    fate_unless (reason_by (length ds) since ago) f count ≡ named_fate b n f count
by_named ds b f count since s ago n e k =
    elim (cases_lt ago (length ds)) [
      | inl l ↦ inside l
      | inr g ↦
          rw (le-ltb ago (length ds) g) (ap (λ o. named_fate b o f count) (sym (e ∙ ap (at_position ds) (outside g))))
    ]
  where
    outside : length ds ≤ ago → before_last (length ds) ago ≡ None
    outside g = rw (le-ltb ago (length ds) g) refl

    decided : (c : Bool) (x : ℕ) → nat_le b x ≡ c →
        fate_unless (if c then None else Some EarlierActivation) f count ≡ named_fate b (Some x) f count
    decided true x q = rw q refl
    decided false x q = rw q refl

    inside : ago < length ds → fate_unless (reason_by (length ds) since ago) f count ≡ named_fate b n f count
    inside l =
        let place : ℕ = length ds - ago - 1 in
        let x : ℕ = get_or ds place 0 in
        let found : n ≡ Some x =
        e ∙ rw (lt-ltb ago (length ds) l) (there ds place (omega arith)) in
        let same : nat_le b x ≡ nat_lt ago since = ap (is_from (Some b)) (sym found) ∙ k in
        rw (lt-ltb ago (length ds) l)
        (decided (nat_lt ago since) x same ∙ ap (λ o. named_fate b o f count) (sym found))

-- of a list of fewer than 2^32 dones the count is their number
count_is : (k : ℕ) → k < 2 ^ 32 → k % 2 ^ 32 ≡ k
count_is k l = omega arith

counted : (log : List Act) (m b f count s : ℕ) → length log < 2 ^ 32 → s < 2 ^ 32 →
    fate_unless
    (reason_by (length (dones log m) % 2 ^ 32) (min (count_from b (dones log m)) (2 ^ 32))
    (dones_ago (length (dones log m) % 2 ^ 32) s)) f count
    ≡ named_fate b (named log m s) f count
counted log m b f count s l w =
    let few : length (dones log m) ≤ length log = dones_few log m in
    let short : length (dones log m) < 2 ^ 32 = omega arith in
    let ago : ℕ = dones_ago (length (dones log m) % 2 ^ 32) s in
    let since : ℕ = min (count_from b (dones log m)) (2 ^ 32) in
    ap (λ k. fate_unless (reason_by k since ago) f count) (count_is (length (dones log m)) short)
    ∙ by_named (dones log m) b f count since s ago (named log m s) (named_ago (dones log m) s short w)
    (fresh_is log m b s ∙ ap (λ c. c && nat_lt ago since) (lt-ltb s (2 ^ 32) w))

-- an activation and a holder: there are both or none
by_activation : (log : List Act) (m s : ℕ) (b held : Option ℕ) → length log < 2 ^ 32 → s < 2 ^ 32 →
    is_some b ≡ is_some held →
    fate_to held (option_map (commit_count log) held)
    (reason_by (length (dones log m) % 2 ^ 32) (min (count_since b (dones log m)) (2 ^ 32))
    (dones_ago (length (dones log m) % 2 ^ 32) s))
    ≡ serving_fate log b held (named log m s)
by_activation log m s None None l w e = refl
by_activation log m s None (Some f) l w e = absurd (true≢false (sym e))
by_activation log m s (Some b) None l w e = absurd (true≢false e)
by_activation log m s (Some b) (Some f) l w e = counted log m b f (commit_count log f) s l w

by_serving : (log : List Act) (m s : ℕ) (o : Option ℕ) (c : Bool) → IsHistory log → length log < 2 ^ 32 → s < 2 ^ 32 →
    serving log ≡ o → is_at o m ≡ c →
    (if c then fate_to (holder log) (option_map (commit_count log) (holder log))
    (reason_by (length (dones_told log o) % 2 ^ 32) (min (count_since (begun_of log o) (dones_told log o)) (2 ^ 32))
    (dones_ago (length (dones_told log o) % 2 ^ 32) s))
    else Unrelayed NotServing)
    ≡ (if c then serving_fate log (begun_of log o) (holder log) (named log m s) else Unrelayed NotServing)
by_serving log m s o false i l w e k = refl
by_serving log m s None true i l w e k = absurd (true≢false (sym k))
by_serving log m s (Some n) true i l w e k =
    let d : n ≡ m = eqb-true n m k in
    rw d
    (by_activation log m s (begun_for log m) (holder log) l w
    (activation_held log m i (e ∙ ap (λ v. Some v) d)))

-- what a seat's counts say of a batch is what the acts say
pub fate_is : (log : List Act) (m s : ℕ) → IsHistory log → length log < 2 ^ 32 → s < 2 ^ 32 →
    fate_on (seat log) m s ≡ fate log m s
fate_is log m s i l w = by_serving log m s (serving log) (is_at (serving log) m) i l w refl refl
