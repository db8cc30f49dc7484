-- Which bits are set once all was told
use Rattle.std.proofs.Common.{◌≡◌, ◌⊎◌, ◌↔◌, ℕ, ◌<◌, List, [], ◌∷◌, Some, ap, sym, ◌∙◌, inl, inr, ⊎_elim, arith}
use Rattle.std.specs.Int.{bit_at}
use Rattle.std.proofs.lemmas.Nat.Bits.{bit_at-zero}
use Rattle.broker_core.specs.Reached.{Reached}
use Rattle.broker_core.specs.Watched.{Watched}
use Rattle.hub_lock.specs.declared.rings.Rings.{Rings}
use Rattle.hub_lock.specs.Bells.{bell_of, IsFor, AreRung, IsRungBy}

reached : (before : Rings) (ws : List Watched) (after : Rings) → Reached IsRungBy before ws after
    → (k : ℕ) → k < 64 → (bit_at after.bits k ≡ 1) ↔ (IsFor k ws ⊎ (bit_at before.bits k ≡ 1))
reached before [] after r k small =
    let same : bit_at after.bits k ≡ bit_at before.bits k = ap (λ (x : Rings). bit_at x.bits k) r in
    (λ on. inr (sym same ∙ on), λ e. ⊎_elim (λ (f : IsFor k []). absurd f) (λ on. same ∙ on) e)
reached before (w ∷ ws) after r k small =
    let first = r.1 k small in
    let rest = reached r.0 ws after r.2 k small in (
      λ on. ⊎_elim (λ (f : IsFor k ws). inl (inr f))
          (λ (m : bit_at r.0.bits k ≡ 1). ⊎_elim (λ (b : bell_of w ≡ Some k). inl (inl b)) (λ old. inr old) (first.0 m))
          (rest.0 on),
      λ e. rest.1 (⊎_elim
          (λ (f : IsFor k (w ∷ ws)). ⊎_elim (λ (b : bell_of w ≡ Some k). inr (first.1 (inl b)))
          (λ (f' : IsFor k ws). inl f') f)
          (λ (old : bit_at before.bits k ≡ 1). inr (first.1 (inr old))) e),
    )

-- where none rang before, those ring that are told of
pub all-rung : (before : Rings) (ws : List Watched) (after : Rings) → before.bits ≡ 0 →
    Reached IsRungBy before ws after → AreRung after.bits ws
all-rung before ws after none r k small =
    let all = reached before ws after r k small in
    let off : (bit_at before.bits k ≡ 1) → IsFor k ws = λ on. let z : bit_at before.bits k ≡ 0 =
    ap (λ n. bit_at n k) none ∙ bit_at-zero k in absurd (omega arith) in
    (λ on. ⊎_elim (λ (f : IsFor k ws). f) off (all.0 on), λ f. all.1 (inl f))
