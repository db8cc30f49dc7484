-- How many pairs have one of several numbers
use Rattle.std.proofs.Common.{◌≡◌, ◌≢◌, ℕ, ◌+◌, ◌≤◌, Bool, true, false, cond, eqb, List, [], ◌∷◌, length, sym, refl, ap, ◌∙◌, subst, inl, inr, ⊎_elim, arith, eq-eqb, ne_eqb}
use mathlib.Core.Logic.{dite}
use native.Mathlib.Decide.{ℕ_discrete}
use Rattle.turn_lock.specs.Pairs.{own, NoneOf, IsIn, IsDistinct, total}
use Rattle.turn_lock.specs.Rule.{bit}
use Rattle.turn_lock.proofs.PairsOfNumbers.{own-here, none-back}

-- how often the number stands among these
abbrev pub hits : List ℕ → ℕ → ℕ
hits [] n = 0
hits (m ∷ ms) n = bit (eqb n m) + hits ms n

hits-absent : (ns : List ℕ) (n : ℕ) → (IsIn n ns → ⊥) → hits ns n ≡ 0
hits-absent [] n f = refl
hits-absent (m ∷ ms) n f =
    let b : bit (eqb n m) ≡ 0 = ap bit (ne_eqb n m (λ e. f (inl (sym e)))) in
    let t = hits-absent ms n (λ i. f (inr i)) in omega arith

absent-hits : (ns : List ℕ) (n : ℕ) → hits ns n ≡ 0 → IsIn n ns → ⊥
absent-hits [] n z i = i
absent-hits (m ∷ ms) n z i = ⊎_elim
    (λ (e : m ≡ n). let b : bit (eqb n m) ≡ 1 = ap bit (eq-eqb n m (sym e)) in absurd (omega arith))
    (λ (r : IsIn n ms). let t : hits ms n ≡ 0 = omega arith in absent-hits ms n t r) i

pub hits-once : (ns : List ℕ) (n : ℕ) → IsDistinct ns → hits ns n ≤ 1
hits-once [] n d = omega arith
hits-once (m ∷ ms) n d = dite (ℕ_discrete n m)
    (λ e. let b : bit (eqb n m) ≡ 1 = ap bit (eq-eqb n m e) in
    let t = hits-absent ms n (λ i. d.0 (subst (λ k. IsIn k ms) e i)) in omega arith)
    (λ other. let b : bit (eqb n m) ≡ 0 = ap bit (ne_eqb n m other) in let t = hits-once ms n d.1 in omega arith)

length-cond : {X : Type 0} (b : Bool) (x : X) (xs : List X) → length (cond b (x ∷ xs) xs) ≡ bit b + length xs
length-cond true x xs = omega arith
length-cond false x xs = omega arith

module _ {E : Type 0} where
  total-nil : (ns : List ℕ) (h : List (ℕ × E)) → h ≡ [] → total ns h ≡ 0
  total-nil [] h e = refl
  total-nil (n ∷ ns) h e = let z = ap (λ g. length (own n g)) e in let t = total-nil ns h e in omega arith

  pub total-cons : (ns : List ℕ) (x : ℕ × E) (xs : List (ℕ × E)) → total ns (x ∷ xs) ≡ hits ns x.0 + total ns xs
  total-cons [] x xs = omega arith
  total-cons (n ∷ ns) x xs =
      let t = total-cons ns x xs in let l = length-cond (eqb x.0 n) x.1 (own n xs) in omega arith

  pub total-few : (ns : List ℕ) (h : List (ℕ × E)) → IsDistinct ns → total ns h ≤ length h
  total-few ns [] d = let t = total-nil ns [] refl in omega arith
  total-few ns (x ∷ xs) d =
      let o = hits-once ns x.0 d in let r = total-few ns xs d in let t = total-cons ns x xs in omega arith

  -- where each pair has one of the numbers
  pub total-all : (ns : List ℕ) (h : List (ℕ × E)) → IsDistinct ns → ((n : ℕ) → (IsIn n ns → ⊥) → NoneOf n h)
      → total ns h ≡ length h
  total-all ns [] d f = total-nil ns [] refl
  total-all ns (x ∷ xs) d f =
      let once = hits-once ns x.0 d in
      let hit : hits ns x.0 ≢ 0 = λ z.
      let e : x.1 ∷ own x.0 xs ≡ [] = sym (own-here x.0 x xs refl) ∙ f x.0 (absent-hits ns x.0 z) in absurd (cc) in
      let rest = total-all ns xs d (λ n stray. none-back n (x ∷ []) xs (f n stray)) in
      let t = total-cons ns x xs in omega arith
