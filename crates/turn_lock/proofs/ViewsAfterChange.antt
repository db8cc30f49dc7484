-- The views after one of them changed, or one more came
use Rattle.std.proofs.Common.{◌≡◌, ◌≢◌, ◌⊎◌, ℕ, zero, suc, ◌+◌, ◌≤◌, true, List, [], ◌∷◌, ◌++◌, length, set, sym, refl, ap, ◌∙◌, subst, inl, inr, ⊎_elim, arith}
use mathlib.Core.Logic.{dite}
use mathlib.Core.Option.{some, some-injective, some-ne-none}
use native.Mathlib.Decide.{ℕ_discrete}
use lib.ListN.{get_elem?}
use Rattle.atomic_table.proofs.Lists.{at_set}
use Rattle.turn_lock.specs.declared.view.View.{View}
use Rattle.turn_lock.specs.Rule.{bit, At, IsLive, live_count}

module _ {E C : Type 0} where
  -- what is so of the changed view and of the others is so of all
  pub each-set : (P : ℕ → View E C → Type 0) (vs : List (View E C)) (id : ℕ) (w : View E C) → P id w
      → ((j : ℕ) (v : View E C) → j ≢ id → get_elem? vs j ≡ some v → P j v)
      → (j : ℕ) (u : View E C) → get_elem? (set vs id w) j ≡ some u → P j u
  each-set P vs id w mine others j u e = ⊎_elim
      (λ (t : (j ≡ id) × (w ≡ u)). subst (λ (x : ℕ × View E C). P x.0 x.1) (λ i. (sym t.0 i, t.1 i)) mine)
      (λ (t : (j ≢ id) × (get_elem? vs j ≡ some u)). others j u t.0 t.1) (at_set vs id j w u e)

  pub each-live : (P : ℕ → View E C → Type 0) (vs : List (View E C)) (id : ℕ) (w : View E C)
      → (w.is_live ≡ true → P id w) → ((j : ℕ) (u : View E C) → j ≢ id → At vs j u → P j u)
      → (j : ℕ) (u : View E C) → At (set vs id w) j u → P j u
  each-live P vs id w mine others j u a = each-set (λ i z. z.is_live ≡ true → P i z) vs id w mine
      (λ i z other there live. others i z other (there, live)) j u a.0 a.1

  pub set-found : (vs : List (View E C)) (i : ℕ) (v w : View E C) → get_elem? vs i ≡ some v
      → get_elem? (set vs i w) i ≡ some w
  set-found [] i v w e = absurd (some-ne-none v (sym e))
  set-found (x ∷ xs) zero v w e = refl
  set-found (x ∷ xs) (suc i) v w e = set-found xs i v w e

  pub set-kept : (vs : List (View E C)) (i j : ℕ) (w u : View E C) → j ≢ i → get_elem? vs j ≡ some u
      → get_elem? (set vs i w) j ≡ some u
  set-kept [] i j w u n e = e
  set-kept (x ∷ xs) zero zero w u n e = absurd (n refl)
  set-kept (x ∷ xs) zero (suc j) w u n e = e
  set-kept (x ∷ xs) (suc i) zero w u n e = e
  set-kept (x ∷ xs) (suc i) (suc j) w u n e = set-kept xs i j w u (λ k. n (ap suc k)) e

  pub same-place : (vs : List (View E C)) (i j : ℕ) (v w : View E C) → i ≡ j → get_elem? vs i ≡ some v
      → get_elem? vs j ≡ some w → v ≡ w
  same-place vs i j v w e a b = some-injective v w (sym a ∙ subst (λ k. get_elem? vs k ≡ some w) (sym e) b)

  pub at-end : (vs : List (View E C)) (w : View E C) (j : ℕ) (u : View E C) → get_elem? (vs ++ w ∷ []) j ≡ some u
      → (get_elem? vs j ≡ some u) ⊎ ((w ≡ u) × (j ≡ length vs))
  at-end [] w zero u e = inr (some-injective w u e, refl)
  at-end [] w (suc j) u e = absurd (some-ne-none u (sym e))
  at-end (x ∷ xs) w zero u e = inl e
  at-end (x ∷ xs) w (suc j) u e = ⊎_elim (λ l. inl l) (λ r. inr (r.0, ap suc r.1)) (at-end xs w j u e)

  pub each-end : (P : ℕ → View E C → Type 0) (vs : List (View E C)) (w : View E C) → P (length vs) w
      → ((j : ℕ) (u : View E C) → get_elem? vs j ≡ some u → P j u)
      → (j : ℕ) (u : View E C) → get_elem? (vs ++ w ∷ []) j ≡ some u → P j u
  each-end P vs w mine others j u e = ⊎_elim (λ l. others j u l)
      (λ (t : (w ≡ u) × (j ≡ length vs)). subst (λ (x : ℕ × View E C). P x.0 x.1) (λ i. (sym t.1 i, t.0 i)) mine)
      (at-end vs w j u e)

  pub live-end : (P : ℕ → View E C → Type 0) (vs : List (View E C)) (w : View E C) → P (length vs) w
      → ((j : ℕ) (u : View E C) → At vs j u → P j u) → (j : ℕ) (u : View E C) → At (vs ++ w ∷ []) j u → P j u
  live-end P vs w mine others j u a =
      each-end (λ i z. z.is_live ≡ true → P i z) vs w (λ _. mine)
      (λ i z there live. others i z (there, live)) j u a.0 a.1

  -- a view that is live after the change was live at that place, with its number
  pub live-before : (vs : List (View E C)) (id : ℕ) (v w : View E C) → At vs id v → w.number ≡ v.number
      → (j : ℕ) (u : View E C) → At (set vs id w) j u → (z : View E C) × At vs j z × (z.number ≡ u.number)
  live-before vs id v w at same = each-live (λ j u. (z : View E C) × At vs j z × (z.number ≡ u.number)) vs id w
      (λ _. (v, at, sym same)) (λ j u _ a. (u, a, refl))

  pub number-before : (vs : List (View E C)) (id : ℕ) (v w : View E C) (n : ℕ) → At vs id v → w.number ≡ v.number
      → IsLive (set vs id w) n → IsLive vs n
  number-before vs id v w n at same o = let z = live-before vs id v w at same o.0 o.1 o.2 in (o.0, z.0, z.1, z.2 ∙ o.3)

  -- and a number that was live stays so
  pub number-after : (vs : List (View E C)) (id : ℕ) (v w : View E C) (n : ℕ) → At vs id v → w.number ≡ v.number
      → w.is_live ≡ true
      → IsLive vs n → IsLive (set vs id w) n
  number-after vs id v w n at same live o = dite (ℕ_discrete o.0 id)
      (λ e. (
        id,
        w,
        (set-found vs id v w at.0, live),
        same ∙
            (ap (λ (z : View E C). z.number) (same-place vs id o.0 v o.1 (sym e) at.0 o.2.0) ∙ o.3),
      ))
      (λ other. (o.0, o.1, (set-kept vs id o.0 w o.1 other o.2.0, o.2.1), o.3))

  pub count-set : (vs : List (View E C)) (i : ℕ) (v w : View E C) → get_elem? vs i ≡ some v
      → live_count (set vs i w) + bit v.is_live ≡ live_count vs + bit w.is_live
  count-set [] i v w e = absurd (some-ne-none v (sym e))
  count-set (x ∷ xs) zero v w e = let s : bit x.is_live ≡ bit v.is_live =
      ap (λ (z : View E C). bit z.is_live) (some-injective x v e) in omega arith
  count-set (x ∷ xs) (suc i) v w e = let s = count-set xs i v w e in omega arith

  pub count-end : (vs : List (View E C)) (w : View E C) → live_count (vs ++ w ∷ []) ≡ live_count vs + bit w.is_live
  count-end [] w = omega arith
  count-end (x ∷ xs) w = let s = count-end xs w in omega arith

  count-one : (vs : List (View E C)) (i : ℕ) (v : View E C) → At vs i v → 1 ≤ live_count vs
  count-one [] i v a = absurd (some-ne-none v (sym a.0))
  count-one (x ∷ xs) zero v a = let s : bit x.is_live ≡ 1 =
      ap (λ (z : View E C). bit z.is_live) (some-injective x v a.0) ∙ ap bit a.1 in omega arith
  count-one (x ∷ xs) (suc i) v a = let s = count-one xs i v a in omega arith

  pub count-two : (vs : List (View E C)) (i j : ℕ) (v w : View E C) → At vs i v → At vs j w → i ≢ j → 2 ≤ live_count vs
  count-two [] i j v w a b n = absurd (some-ne-none v (sym a.0))
  count-two (x ∷ xs) zero zero v w a b n = absurd (n refl)
  count-two (x ∷ xs) zero (suc j) v w a b n =
      let s : bit x.is_live ≡ 1 = ap (λ (z : View E C). bit z.is_live) (some-injective x v a.0) ∙ ap bit a.1 in
      let t = count-one xs j w b in omega arith
  count-two (x ∷ xs) (suc i) zero v w a b n =
      let s : bit x.is_live ≡ 1 = ap (λ (z : View E C). bit z.is_live) (some-injective x w b.0) ∙ ap bit b.1 in
      let t = count-one xs i v a in omega arith
  count-two (x ∷ xs) (suc i) (suc j) v w a b n = let t = count-two xs i j v w a b (λ k. n (ap suc k)) in omega arith
