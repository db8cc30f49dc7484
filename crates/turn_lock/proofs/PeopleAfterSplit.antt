-- What the seats know stays so when the first splits one off
use Rattle.std.proofs.Common.{◌≡◌, ◌⊎◌, ℕ, ◌+◌, ◌<◌, List, [], ◌∷◌, ◌++◌, length, set, sym, refl, ap, ◌∙◌, subst, inl, inr, ⊎_elim, Some, arith}
use mathlib.Core.Logic.{dite}
use native.Mathlib.Decide.{ℕ_discrete}
use Rattle.atomic_table.proofs.Lists.{at_longer, at_last}
use Rattle.turn_lock.specs.declared.view.View.{View}
use Rattle.turn_lock.specs.Pairs.{NoneOf, HasSeen, IsIn}
use Rattle.turn_lock.specs.Rule.{At, IsLive, IsTaken, IsFirst, People}
use Rattle.turn_lock.specs.Steps.{view_after_split, view_split_off}
use Rattle.turn_lock.proofs.PairsOfNumbers.{none-back}
use Rattle.turn_lock.proofs.ViewsAfterChange.{each-live, set-found, same-place, at-end, live-end, live-before, number-before, number-after, count-set, count-end}

module _ {E C : Type 0} where
  number-of-end : (vs : List (View E C)) (w : View E C) (n : ℕ) → IsLive (vs ++ w ∷ []) n → IsLive vs n ⊎ (w.number ≡ n)
  number-of-end vs w n o = live-end (λ j u. u.number ≡ n → IsLive vs n ⊎ (w.number ≡ n)) vs w (λ e. inr e)
      (λ j u a e. inl (j, u, a, e)) o.0 o.1 o.2 o.3

  pub people-split : (c : C) (h : List (ℕ × E)) (vs : List (View E C)) (id : ℕ) (v : View E C) → At vs id v
      → v.number ≡ 0
      → People c h vs → People c h (set vs id (view_after_split v) ++ view_split_off v ∷ [])
  people-split c h vs id v at zero p =
      let w : View E C = view_after_split v in
      let one : View E C = view_split_off v in
      let vs' : List (View E C) = set vs id w in
      let r = p.first id v at zero in
      let drawn : v.next ≡ p.next = r.drawn in
      let s = p.seen id v at in
      let old = live-before vs id v w at refl in
      let old_below : (j : ℕ) (u : View E C) → At vs' j u → u.number < p.next =
      λ j u a. let z = old j u a in subst (λ k. k < p.next) z.2 (p.below j z.0 z.1) in
      let from : (j : ℕ) (u : View E C) → At (vs' ++ one ∷ []) j u → (At vs' j u) ⊎ ((one ≡ u) × (j ≡ length vs')) =
      λ j u a. ⊎_elim (λ e. inl (e, a.1)) (λ t. inr t) (at-end vs' one j u a.0) in
      let new_apart : (j : ℕ) (x y : View E C) → At vs' j x → one ≡ y → x.number ≡ y.number → ⊥ = λ j x y a e same.
      let b = old_below j x a in let n : y.number ≡ v.next = ap (λ (z : View E C). z.number) (sym e) in omega arith in
      let still : (u : View E C) (n : ℕ) → IsTaken p.next h vs u n → IsTaken (p.next + 1) h (vs' ++ one ∷ []) u n =
      λ u n t. record {
        settled = t.settled;
        gone = λ o. ⊎_elim (λ l. t.gone (number-before vs id v w n at refl l))
            (λ e. let small = t.below in absurd (omega arith)) (number-of-end vs' one n o);
        below = let small = t.below in omega arith;
      } in
      record {
        next = p.next + 1;
        seen = live-end (λ j u. HasSeen h u.number u.seen) vs' one
            (s.0, s.1, none-back v.next v.seen s.0 (subst (NoneOf v.next) s.1 (p.made v.next (omega arith))))
            (each-live (λ j u. HasSeen h u.number u.seen) vs id w (λ _. s) (λ j u _ a. p.seen j u a));
        told = live-end (λ j u. u.constant ≡ Some c) vs' one (p.told id v at)
            (each-live (λ j u. u.constant ≡ Some c) vs id w (λ _. p.told id v at) (λ j u _ a. p.told j u a));
        below = live-end (λ j u. u.number < p.next + 1) vs' one (omega arith)
            (λ j u a. let b = old_below j u a in omega arith);
        apart = λ i j x y a b e. ⊎_elim
            (λ l. ⊎_elim (λ l'. let z = old i x l in let z' = old j y l' in
            p.apart i j z.0 z'.0 z.1 z'.1 (z.2 ∙ (e ∙ sym z'.2)))
            (λ t. absurd (new_apart i x y l t.0 e)) (from j y b))
            (λ t. ⊎_elim (λ l'. absurd (new_apart j y x l' t.0 (sym e))) (λ t'. t.1 ∙ sym t'.1) (from j y b))
            (from i x a);
        made = λ n big. p.made n (omega arith);
        taken = live-end (λ j u. (n : ℕ) → IsIn n u.taken → IsTaken (p.next + 1) h (vs' ++ one ∷ []) u n) vs' one
            (λ n i. absurd i)
            (each-live (λ j u. (n : ℕ) → IsIn n u.taken → IsTaken (p.next + 1) h (vs' ++ one ∷ []) u n) vs id w
            (λ _ n i. let t = still v n (p.taken id v at n i) in
            record { settled = t.settled; gone = t.gone; below = t.below })
            (λ j u _ a n i. still u n (p.taken j u a n i)));
        first = λ j u a is_zero. ⊎_elim
            (λ l.
            let z = old j u l in
            let here : j ≡ id = p.apart j id z.0 v z.1 at (z.2 ∙ (is_zero ∙ sym zero)) in
            let same : w ≡ u = same-place vs' id j w u (sym here) (set-found vs id v w at.0) l.0 in
            subst (λ (u : View E C). IsFirst (p.next + 1) (vs' ++ one ∷ []) u) same record {
              drawn = ap (λ (k : ℕ). k + 1) drawn;
              tally = let s = count-set vs id v w at.0 in let e = count-end vs' one in let t = r.tally in omega arith;
              owned = λ n small. dite (ℕ_discrete n v.next)
                  (λ e. inl (length vs', one, (at_last vs' one (length vs') refl, refl), sym e))
                  (λ other. ⊎_elim
                  (λ o. let l = number-after vs id v w n at refl at.1 o in
                  inl (l.0, l.1, (at_longer vs' (one ∷ []) l.0 l.1 l.2.0, l.2.1), l.3))
                  (λ t. inr t) (r.owned n (omega arith)));
              once = r.once;
              met = r.met;
            })
            (λ t. absurd (let n : u.number ≡ v.next = ap (λ (z : View E C). z.number) (sym t.0) in let b =
            p.below id v at in omega arith))
            (from j u a);
      }
