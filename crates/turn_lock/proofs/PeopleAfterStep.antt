-- What the seats know stays so when one of them takes the lock, adds a pair or gives the lock back
use Rattle.std.proofs.Common.{◌≡◌, ◌≢◌, ℕ, zero, suc, ◌<◌, Bool, List, [], ◌∷◌, set, sym, refl, ◌∙◌, subst, inl, inr, ⊎_elim, Some, arith}
use mathlib.Core.Option.{some-injective, some-ne-none}
use Rattle.turn_lock.specs.declared.view.View.{View}
use Rattle.turn_lock.specs.Pairs.{NoneOf, HasSeen, IsIn}
use Rattle.turn_lock.specs.Rule.{At, IsTaken, IsFirst, People}
use Rattle.turn_lock.specs.Steps.{hold, newcomer}
use Rattle.turn_lock.proofs.PairsOfNumbers.{has-all}
use Rattle.turn_lock.proofs.ViewsAfterChange.{each-live, live-before, number-before, number-after, count-set}

module _ {E C : Type 0} where
  first-step : (vs : List (View E C)) (id next : ℕ) (v u : View E C) (b b' : Bool) (l l' : List (ℕ × E)) → At vs id v
      → IsFirst next vs u → IsFirst next (set vs id (hold v b l)) (hold u b' l')
  first-step vs id next v u b b' l l' at r = let w : View E C = hold v b l in record {
    drawn = r.drawn;
    tally = let s = count-set vs id v w at.0 in let t = r.tally in omega arith;
    owned = λ n small. ⊎_elim (λ o. inl (number-after vs id v w n at refl at.1 o)) (λ t. inr t) (r.owned n small);
    once = r.once;
    met = r.met;
  }

  -- the history h became h', and the stepping seat has then seen l
  pub people-step : (c : C) (h h' l : List (ℕ × E)) (vs : List (View E C)) (id : ℕ) (v : View E C) (b : Bool)
      → At vs id v
      → ((n : ℕ) → n ≢ v.number → NoneOf n h → NoneOf n h')
      → ((n : ℕ) (x : List (ℕ × E)) → n ≢ v.number → HasSeen h n x → HasSeen h' n x)
      → ((n : ℕ) → HasSeen h n v.seen → HasSeen h' n l)
      → People c h vs → People c h' (set vs id (hold v b l))
  people-step c h h' l vs id v b at free grow keep p =
      let w : View E C = hold v b l in
      let before = live-before vs id v w at refl in record {
        next = p.next;
        seen = each-live (λ j u. HasSeen h' u.number u.seen) vs id w (λ _. keep v.number (p.seen id v at))
            (λ j u other a. grow u.number u.seen (λ e. other (p.apart j id u v a at e)) (p.seen j u a));
        told = each-live (λ j u. u.constant ≡ Some c) vs id w (λ _. p.told id v at) (λ j u _ a. p.told j u a);
        below = each-live (λ j u. u.number < p.next) vs id w (λ _. p.below id v at) (λ j u _ a. p.below j u a);
        apart = λ i j x y a a' e. let z = before i x a in let z' = before j y a' in
            p.apart i j z.0 z'.0 z.1 z'.1 (z.2 ∙ (e ∙ sym z'.2));
        made = λ n big. let small = p.below id v at in free n (λ e. omega arith) (p.made n big);
        taken = each-live (λ j u. (n : ℕ) → IsIn n u.taken → IsTaken p.next h' (set vs id w) u n) vs id w
            (λ _ n i. let t = p.taken id v at n i in record {
              settled = keep n t.settled;
              gone =
                  λ o. t.gone (number-before vs id v w n at refl o);
              below = t.below;
            })
            (λ j u _ a n i. let t = p.taken j u a n i in record {
              settled = grow n u.seen (λ e. t.gone (id, v, at, sym e)) t.settled;
              gone = λ o. t.gone (number-before vs id v w n at refl o);
              below = t.below;
            });
        first = each-live (λ j u. u.number ≡ 0 → IsFirst p.next (set vs id w) u) vs id w
            (λ _ zero. first-step vs id p.next v v b b l l at (p.first id v at zero))
            (λ j u _ a zero. first-step vs id p.next v u b u.holds l u.seen at (p.first j u a zero));
      }

  one-live : (P : ℕ → View E C → Type 0) (w : View E C) → P 0 w → (j : ℕ) (u : View E C) → At (w ∷ []) j u → P j u
  one-live P w mine zero u a = subst (P 0) (some-injective w u a.0) mine
  one-live P w mine (suc j) u a = absurd (some-ne-none u (sym a.0))

  -- at first there is one seat and no pair
  pub people-new : (c : C) → People {E = E} c [] (newcomer 0 (Some c) [] ∷ [])
  people-new c = let w : View E C = newcomer 0 (Some c) [] in record {
    next = 1;
    seen = one-live (λ j v. HasSeen [] v.number v.seen) w (has-all [] 0);
    told = one-live (λ j v. v.constant ≡ Some c) w refl;
    below = one-live (λ j v. v.number < 1) w (omega arith);
    apart = λ i j x y a b _. one-live (λ k _. k ≡ j) w (one-live (λ k _. 0 ≡ k) w refl j y b) i x a;
    made = λ n _. refl;
    taken = one-live (λ j v. (n : ℕ) → IsIn n v.taken → IsTaken 1 [] (w ∷ []) v n) w (λ n i. absurd i);
    first = one-live (λ j v. v.number ≡ 0 → IsFirst 1 (w ∷ []) v) w (λ _. record {
      drawn = refl;
      tally = omega arith;
      owned = λ n small. inl (0, w, (refl, refl), (let e : 0 ≡ n = omega arith in e));
      once = tt;
      met = record { mine = has-all [] 0; taken = λ n i. absurd i; theirs = has-all [] 0 };
    });
  }
