-- What the first seat knows of the history
use Rattle.std.proofs.Common.{◌≡◌, ℕ, ◌+◌, ◌<◌, ◌^◌, List, ◌∷◌, ◌++◌, length, length-append, append-nil, sym, ap, ◌∙◌, subst, inl, inr, ⊎_elim, arith}
use mathlib.Core.Logic.{dite}
use native.Mathlib.Decide.{dec_le, ℕ_discrete}
use Rattle.turn_lock.specs.declared.view.View.{View}
use Rattle.turn_lock.specs.Pairs.{NoneOf, HasSeen, IsIn, IsDistinct}
use Rattle.turn_lock.specs.Rule.{At, IsLive, People}
use Rattle.turn_lock.specs.Steps.{Tallied}
use Rattle.turn_lock.proofs.PairsOfNumbers.{none-front, none-back, none-nil, none-past}
use Rattle.turn_lock.proofs.TotalsOfPairs.{total-few, total-all}
use Rattle.turn_lock.proofs.ViewsAfterChange.{same-place, count-two}

module _ {E C : Type 0} (c : C) (h : List (ℕ × E)) (vs : List (View E C)) (id : ℕ) (v : View E C) (at : At vs id v)
    (zero : v.number ≡ 0) (p : People c h vs) where
  -- with no seat out the first is alone
  alone : v.out ≡ 0 → (j : ℕ) (u : View E C) → At vs j u → v ≡ u
  alone none_out j u a = dite (ℕ_discrete id j) (λ e. same-place vs id j v u e at.0 a.0)
      (λ apart. let two = count-two vs id j v u at a apart in let t = (p.first id v at zero).tally in
      absurd (omega arith))

  settled : v.out ≡ 0 → (n : ℕ) → n < p.next → HasSeen h n v.seen
  settled none_out n small = ⊎_elim
      (λ (o : IsLive vs n). subst (λ k. HasSeen h k v.seen)
      (ap (λ (x : View E C). x.number) (alone none_out o.0 o.1 o.2) ∙ o.3) (p.seen id v at))
      (λ (t : IsIn n v.taken). (p.taken id v at n t).settled)
      ((p.first id v at zero).owned n small)

  pub all-seen : v.out ≡ 0 → h ≡ v.seen
  all-seen none_out =
      let s = p.seen id v at in
      let free : (n : ℕ) → NoneOf n s.0 = λ n. dite (dec_le (n + 1) p.next)
      (λ small. none-past h v.seen s.0 n s.1 (settled none_out n (omega arith)))
      (λ big. none-back n v.seen s.0 (subst (NoneOf n) s.1 (p.made n (omega arith)))) in
      s.1 ∙ (ap (λ z. v.seen ++ z) (none-nil s.0 free) ∙ append-nil v.seen)

  apart : IsIn 0 v.taken → ⊥
  apart i = (p.taken id v at 0 i).gone (id, v, at, zero)

  once : IsDistinct (0 ∷ v.taken)
  once = (apart, (p.first id v at zero).once)

  -- a number that was neither taken in nor is the first seat's has no pair, with no seat out
  absent : v.out ≡ 0 → (n : ℕ) → (IsIn n (0 ∷ v.taken) → ⊥) → NoneOf n v.seen
  absent none_out n stray = subst (NoneOf n) (all-seen none_out) (dite (dec_le (n + 1) p.next)
      (λ small. absurd (⊎_elim
      (λ (o : IsLive vs n). stray (inl (sym zero ∙ (ap (λ (x : View E C). x.number) (alone none_out o.0 o.1 o.2)
      ∙ o.3))))
      (λ (t : IsIn n v.taken). stray (inr t))
      ((p.first id v at zero).owned n (omega arith))))
      (λ big. p.made n (omega arith)))

  pub is-tallied : length h < 2 ^ 64 → Tallied v
  is-tallied fits _ turn = let s = p.seen id v at in record {
    fresh = λ n big. let d = (p.first id v at zero).drawn in
        none-front n v.seen s.0 (subst (NoneOf n) s.1 (p.made n (omega arith)));
    apart = apart;
    once = (p.first id v at zero).once;
    few =
        let t = total-few (0 ∷ v.taken) v.seen once in
        let l = ap length s.1 in let a = length-append v.seen s.0 in omega arith;
    all = λ none_out. total-all (0 ∷ v.taken) v.seen once (absent none_out);
  }
