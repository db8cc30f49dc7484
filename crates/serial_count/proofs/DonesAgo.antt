-- the done that a serial names, by how many dones ago it was
use Rattle.std.proofs.Common.{◌≡◌, ℕ, zero, suc, ◌+◌, ◌-◌, ◌%◌, ◌^◌, ◌<◌, ◌≤◌, Bool, true, false, Option, Some, None, ap, refl, sym, subst, ◌∙◌, arith, inl, inr}
use Rattle.std.specs.Prelude.{◌==◌, nat_lt, if◌then◌else◌, min, ◌↔◌, IsTrue, IsSomeAnd}
use Rattle.std.proofs.lemmas.Bool.{cases_lt, lt-ltb, le-ltb, eqb-true, eqb-false, ltb-true, ltb-false}
use Rattle.serial_count.specs.Serial.{named, IsFresh}

back_one : (s b k : ℕ) → (s + suc b) % 2 ^ 32 ≡ suc k % 2 ^ 32 → (s + b) % 2 ^ 32 ≡ k % 2 ^ 32
back_one s b k e = omega arith

at_zero : (s b : ℕ) → s < 2 ^ 32 → b < 2 ^ 32 → (s + b) % 2 ^ 32 ≡ s → b ≡ 0
at_zero s b p q e = omega arith

-- the position that is `back` before the last of k, where there is one
abbrev pub before_last : (k back : ℕ) → Option ℕ
before_last k back = (if nat_lt back k then Some (k - back) else None)

none_before : (b : ℕ) → None ≡ before_last zero b
none_before b = rw (le-ltb b 0 (omega arith)) refl

one_more : (k b : ℕ) → before_last k b ≡ before_last (suc k) (suc b)
one_more k b =
    elim (cases_lt b k) [
      | inl l ↦ rw (lt-ltb b k l, lt-ltb (suc b) (suc k) (omega arith)) (ap (λ n. Some n) (omega arith))
      | inr g ↦ rw (le-ltb b k g, le-ltb (suc b) (suc k) (omega arith)) refl
    ]

named_step : (k s b : ℕ) (here : Bool) (older : Option ℕ) → s < 2 ^ 32 → b < 2 ^ 32 →
    (s + b) % 2 ^ 32 ≡ suc k % 2 ^ 32 → (suc k % 2 ^ 32 == s) ≡ here →
    ((b' : ℕ) → b' < 2 ^ 32 → (s + b') % 2 ^ 32 ≡ k % 2 ^ 32 → older ≡ before_last k b') →
    (if here then Some (suc k) else older) ≡ before_last (suc k) b
named_step k s b true older p q e h ih =
    let same : suc k % 2 ^ 32 ≡ s = eqb-true _ s h in
    let none_ago : b ≡ 0 = at_zero s b p q (e ∙ same) in
    rw none_ago (rw (lt-ltb 0 (suc k) (omega arith)) (ap (λ n. Some n) (omega arith)))
named_step k s zero false older p q e h ih =
    absurd (eqb-false (suc k % 2 ^ 32) s h (omega arith))
named_step k s (suc b) false older p q e h ih =
    ih b (omega arith) (back_one s b k e) ∙ one_more k b

-- with the serial `back` dones behind the count modulo 2^32, it names the done that many before the last
pub named_is : (k s b : ℕ) → s < 2 ^ 32 → b < 2 ^ 32 → (s + b) % 2 ^ 32 ≡ k % 2 ^ 32 → named k s ≡ before_last k b
named_is zero s b p q e = none_before b
named_is (suc k) s b p q e =
    named_step k s b (suc k % 2 ^ 32 == s) (named k s) p q e refl (λ b' q' e'. named_is k s b' p q' e')

-- one of the last j: the distance is below the smaller of j and 2^32
last_ones : (k j since b : ℕ) (here : Bool) → j ≤ k → b < 2 ^ 32 → since ≡ min j (2 ^ 32) → nat_lt b k ≡ here →
    IsTrue (nat_lt b since) ↔ IsSomeAnd (if here then Some (k - b) else None) (λ n. k - j < n)
last_ones k j since b true p q e h =
    (λ t. omega (arith, ltb-true b since t, ltb-true b k h), λ t. lt-ltb b since (omega (arith, ltb-true b k h)))
last_ones k j since b false p q e h = (λ t. omega (arith, ltb-true b since t, ltb-false b k h), λ t. absurd t)

-- comparing the distance is the search
pub fresh_by_distance : (k j s count since b : ℕ) → s < 2 ^ 32 → j ≤ k → count ≡ k % 2 ^ 32 → since ≡ min j (2 ^ 32) →
    b ≡ (count + (2 ^ 32 - s)) % 2 ^ 32 → IsTrue (nat_lt b since) ↔ IsFresh k j s
fresh_by_distance k j s count since b p q e f g =
    let Fresh : Option ℕ → Type 0 = λ o. IsTrue (nat_lt b since) ↔ IsSomeAnd o (λ n. k - j < n) in
    let short : b < 2 ^ 32 = omega arith in
    subst Fresh (sym (named_is k s b p short (omega arith))) (last_ones k j since b (nat_lt b k) q short f refl)
