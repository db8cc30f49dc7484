-- What stands at the front of bytes: a message, a part of one, or a header with a bad size.
use Rattle.std.proofs.Common.{◌≡◌, ℕ, ◌+◌, ◌%◌, ◌≤◌, Bool, true, false, leb, ◌==◌, ◌&&◌, not, List, [], ◌∷◌, ◌++◌, length, take, drop, refl, sym, ap, subst, ◌∙◌, arith, length-append}
use Rattle.std.proofs.lemmas.List.{take-append-drop, length-take}
use Rattle.std.proofs.lemmas.Bool.{and_parts, leb-true, le-leb, eqb-true, eq-eqb}
use Rattle.wl_wire.specs.Messages.{size_of, IsGoodSize, IsMessage, IsPartial, IsBad, is_good, messages}
use Rattle.wl_wire.proofs.SizeInHeader.{size_stays}
use Rattle.trial_run.specs.Hearing.{has_bad_size}
use Rattle.trial_run.proofs.FirstMessages.{first_is, none_is}

good_is : (n : ℕ) → IsGoodSize n → is_good n ≡ true
good_is n h = rw (le-leb 8 n h.0, le-leb n 4096 h.1, eq-eqb (n % 4) 0 h.2) refl

good_size : (n : ℕ) → is_good n ≡ true → IsGoodSize n
good_size n e =
    let front = and_parts (leb 8 n && leb n 4096) (n % 4 == 0) e in
    let low = and_parts (leb 8 n) (leb n 4096) front.0 in
    (leb-true 8 n low.0, leb-true n 4096 low.1, eqb-true (n % 4) 0 front.1)

-- a message tells its own length
pub record IsFronted (bytes : List ℕ) : Type 0 where
  pub header : 8 ≤ length bytes
  pub good : IsGoodSize (size_of bytes)
  pub there : size_of bytes ≤ length bytes

pub fronted : (bytes m rest : List ℕ) → bytes ≡ m ++ rest → IsMessage m → IsFronted bytes
fronted bytes m rest e is =
    let long : 8 ≤ length m = omega (arith, is.0.0, is.1) in
    let same : size_of bytes ≡ size_of m = ap size_of e ∙ size_stays m rest long in
    let len : length bytes ≡ length m + length rest = ap length e ∙ length-append m rest in
    record {
      header = omega arith;
      good = subst IsGoodSize (sym same) is.0;
      there = omega (arith, is.1);
    }

-- no message is at the front of a part of one

pub partial_none : (rest : List ℕ) → IsPartial rest → messages rest ≡ []
partial_none rest part = none_is rest (λ m more e is.
    let f = fronted rest m more e is in
    let p = part f.header in
    absurd (omega (arith, p.1, f.there)))

pub partial_good : (rest : List ℕ) → IsPartial rest → has_bad_size rest ≡ false
partial_good rest part = by (leb 8 (length rest)) refl
  where
    by : (b : Bool) → leb 8 (length rest) ≡ b → (b && not (is_good (size_of rest))) ≡ false
    by true e = ap not (good_is (size_of rest) (part (leb-true 8 (length rest) e)).0)
    by false e = refl

-- nor of a header with a bad size

pub bad_none : (rest : List ℕ) → IsBad rest → messages rest ≡ []
bad_none rest bad = none_is rest (λ m more e is. bad.1 (fronted rest m more e is).good)

pub bad_is : (rest : List ℕ) → IsBad rest → has_bad_size rest ≡ true
bad_is rest bad =
    ap (λ (b : Bool). b && not (is_good (size_of rest))) (le-leb 8 (length rest) bad.0)
    ∙ by (is_good (size_of rest)) refl
  where
    by : (b : Bool) → is_good (size_of rest) ≡ b → not b ≡ true
    by true e = absurd (bad.1 (good_size (size_of rest) e))
    by false e = refl

-- a message at the front, by the size that its header tells

pub message_first : (bytes : List ℕ) (size : ℕ) → size ≡ size_of bytes → IsGoodSize size → size ≤ length bytes →
    messages bytes ≡ take size bytes ∷ messages (drop size bytes)
message_first bytes size e good there =
    let m : List ℕ = take size bytes in
    let rest : List ℕ = drop size bytes in
    let split : bytes ≡ m ++ rest = sym (take-append-drop size bytes) in
    let least = good.0 in
    let len : length m ≡ size = omega (arith, length-take size bytes) in
    let same : size ≡ size_of m = e ∙ ap size_of split ∙ size_stays m rest (omega arith) in
    let whole : IsMessage m = (subst IsGoodSize same good, len ∙ same) in
    ap messages split ∙ first_is m rest whole
