-- As many tokens as fit go behind those that wait, and the rest is dropped.
use Rattle.std.proofs.Common.{◌≡◌, ℕ, ◌+◌, ◌-◌, ◌≤◌, List, ◌++◌, length, take, min, inl, inr, sym, ap, ◌∙◌, arith}
use Rattle.std.proofs.Math.Seq.{take-append-add}
use Rattle.std.proofs.lemmas.Bool.{cases_lt}
use Rattle.std.proofs.lemmas.List.{take_all}
use Rattle.broker_model.specs.Waiting.{with_tokens}

take_least : (n : ℕ) (t : List ℕ) → take (min n (length t)) t ≡ take n t
take_least n t =
    elim (cases_lt n (length t)) [
      | inl fewer ↦ (let least : min n (length t) ≡ n = omega arith in ap (λ (k : ℕ). take k t) least)
      | inr all ↦
          (let least : min n (length t) ≡ length t = omega arith in
          ap (λ (k : ℕ). take k t) least ∙ take_all (length t) t (omega arith) ∙ sym (take_all n t (omega arith)))
    ]

-- what is put behind
pub with_more : (w t more now : List ℕ) (k at : ℕ) → length w ≤ 256 → k ≡ min (256 - length w) (length t) →
    more ≡ take k t → length more ≤ at →
    now ≡ w ++ take at more → now ≡ with_tokens w t
with_more w t more now k at few is front all h =
    let whole : length w + (256 - length w) ≡ 256 = omega arith in
    h ∙ ap (λ (l : List ℕ). w ++ l)
    (take_all at more all ∙ front ∙ ap (λ (n : ℕ). take n t) is ∙ take_least (256 - length w) t)
    ∙ sym (take-append-add w t (256 - length w))
    ∙ ap (λ (n : ℕ). take n (w ++ t)) whole
