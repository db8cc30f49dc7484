-- What the seats know stays so when the first takes one in
use Rattle.std.proofs.Common.{◌≡◌, ◌≢◌, ℕ, ◌<◌, ◌≤◌, List, length, set, sym, refl, ap, ◌∙◌, subst, inl, inr, ⊎_elim, Some, arith}
use mathlib.Core.Logic.{dite}
use native.Mathlib.Decide.{ℕ_discrete}
use Rattle.turn_lock.specs.declared.view.View.{View}
use Rattle.turn_lock.specs.Pairs.{HasSeen, IsIn, longer}
use Rattle.turn_lock.specs.Rule.{bit, At, IsLive, IsMet, IsTaken, IsFirst, People}
use Rattle.turn_lock.specs.Steps.{view_met_with, spent}
use Rattle.turn_lock.proofs.PairsOfNumbers.{has-all, has-longer, has-between, longer-cases}
use Rattle.turn_lock.proofs.ViewsAfterChange.{each-live, set-found, set-kept, same-place, live-before, number-after, count-set, count-two}

module _ {E C : Type 0} (c : C) (h : List (ℕ × E)) (vs : List (View E C)) (id other : ℕ) (v w : View E C)
    (at : At vs id v) (zero : v.number ≡ 0) (two : other ≢ id) (there : At vs other w) (p : People c h vs) where
  abbrev both : View E C
  both = view_met_with v w

  abbrev after_first : List (View E C)
  after_first = set vs id both

  abbrev after : List (View E C)
  after = set after_first other spent

  left : (j : ℕ) (u : View E C) → At after j u → (j ≢ other) × At after_first j u
  left = each-live (λ j u. (j ≢ other) × At after_first j u) after_first other spent (λ live. absurd (cc))
      (λ j u apart a. (apart, a))

  old : (j : ℕ) (u : View E C) → At after j u → (z : View E C) × At vs j z × (z.number ≡ u.number)
  old j u a = live-before vs id v both at refl j u (left j u a).1

  number_old : (n : ℕ) → IsLive after n → IsLive vs n
  number_old n o = let z = old o.0 o.1 o.2 in (o.0, z.0, z.1, z.2 ∙ o.3)

  other_gone : IsLive after w.number → ⊥
  other_gone o = let z = old o.0 o.1 o.2 in (left o.0 o.1 o.2).0 (p.apart o.0 other z.0 w z.1 there (z.2 ∙ o.3))

  mine : (n : ℕ) → HasSeen h n v.seen → HasSeen h n both.seen
  mine n s = let sw = p.seen other w there in longer-cases (HasSeen h n) v.seen w.seen
      (λ lt. let le : length v.seen ≤ length w.seen = omega arith in has-longer h v.seen w.seen sw.0 n s sw.1 le)
      (λ _. s)

  theirs : (n : ℕ) → HasSeen h n w.seen → HasSeen h n both.seen
  theirs n s = let sv = p.seen id v at in longer-cases (HasSeen h n) v.seen w.seen
      (λ _. s) (λ le. has-longer h w.seen v.seen sv.0 n s sv.1 le)

  -- of what v had seen, within what w had
  within : (n : ℕ) → HasSeen h n v.seen → HasSeen (longer v.seen w.seen) n v.seen
  within n s = let sw = p.seen other w there in longer-cases (λ l. HasSeen l n v.seen) v.seen w.seen
      (λ lt. let le : length v.seen ≤ length w.seen = omega arith in has-between h v.seen w.seen sw.0 n s sw.1 le)
      (λ _. has-all v.seen n)

  met : IsMet both.met
  met = let sv = p.seen id v at in let sw = p.seen other w there in record {
    mine = within 0 (subst (λ n. HasSeen h n v.seen) zero sv);
    taken = λ n i. within n (p.taken id v at n i).settled;
    theirs = longer-cases (λ l. HasSeen l w.number w.seen) v.seen w.seen
        (λ _. has-all w.seen w.number) (λ le. has-between h w.seen v.seen sv.0 w.number sw sv.1 le);
  }

  -- the first seat's view after the meeting
  first_met : IsFirst p.next after both
  first_met = let r = p.first id v at zero in record {
    drawn = r.drawn;
    tally =
        let a = count-set vs id v both at.0 in
        let b = count-set after_first other w spent (set-kept vs id other both w two there.0) in
        let d : bit w.is_live ≡ 1 = ap bit there.1 in
        let e = count-two vs id other v w at there (λ q. two (sym q)) in
        let t = r.tally in omega arith;
    owned = λ n small. dite (ℕ_discrete w.number n)
        (λ e. inr (inl e))
        (λ not_w. ⊎_elim
        (λ o.
        let l = number-after vs id v both n at refl at.1 o in
        let apart : l.0 ≢ other = λ e. not_w (ap (λ (x : View E C). x.number)
        (same-place after_first other l.0 w l.1 (sym e) (set-kept vs id other both w two there.0) l.2.0) ∙ l.3) in
        inl (l.0, l.1, (set-kept after_first other l.0 spent l.1 apart l.2.0, l.2.1), l.3))
        (λ t. inr (inr t))
        (r.owned n small));
    once = ((λ i. (p.taken id v at w.number i).gone (other, w, there, refl)), r.once);
    met = met;
  }

  taken_both : (n : ℕ) → IsIn n both.taken → IsTaken p.next h after both n
  taken_both n i = ⊎_elim
      (λ (e : w.number ≡ n). subst (IsTaken p.next h after both) e record {
        settled = theirs w.number (p.seen other w there);
        gone = other_gone;
        below = p.below other w there;
      })
      (λ (r : IsIn n v.taken). let t = p.taken id v at n r in
      record { settled = mine n t.settled; gone = λ o. t.gone (number_old n o); below = t.below })
      i

  -- of all views: what is so of the first seat's after the meeting, and of those that stay
  each_after : (P : ℕ → View E C → Type 0) → P id both → ((j : ℕ) (u : View E C) → At vs j u → P j u)
      → (j : ℕ) (u : View E C) → At after j u → P j u
  each_after P mine others j u a = each-live P vs id both (λ _. mine) (λ j u _ a. others j u a) j u (left j u a).1

  pub people-met : People c h after
  people-met = record {
    next = p.next;
    seen = each_after (λ j u. HasSeen h u.number u.seen) (mine v.number (p.seen id v at)) p.seen;
    told = each_after (λ j u. u.constant ≡ Some c) (p.told id v at) p.told;
    below = each_after (λ j u. u.number < p.next) (p.below id v at) p.below;
    apart = λ i j x y a b e. let z = old i x a in let z' = old j y b in
        p.apart i j z.0 z'.0 z.1 z'.1 (z.2 ∙ (e ∙ sym z'.2));
    made = p.made;
    taken = each_after (λ j u. (n : ℕ) → IsIn n u.taken → IsTaken p.next h after u n) taken_both
        (λ j u a n i. let t = p.taken j u a n i in record {
          settled = t.settled;
          gone = λ o. t.gone (number_old n o);
          below = t.below;
        });
    first = λ j u a is_zero.
        let z = old j u a in
        let here : j ≡ id = p.apart j id z.0 v z.1 at (z.2 ∙ (is_zero ∙ sym zero)) in
        let same : both ≡ u = same-place after_first id j both u (sym here) (set-found vs id v both at.0)
        (left j u a).1.0 in
        subst (λ (u : View E C). IsFirst p.next after u) same first_met;
  }
