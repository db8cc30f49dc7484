-- What a turn and a meeting do to each number's own pairs, and to how many there are
use Rattle.std.proofs.Common.{◌≡◌, ◌≢◌, ◌⊎◌, ℕ, ◌+◌, List, [], ◌∷◌, ◌++◌, length, sym, refl, ap, ◌∙◌, subst, inl, inr, ⊎_elim, arith, append-nil}
use Rattle.turn_lock.specs.Pairs.{own, NoneOf, IsGrown, IsIn, total}
use Rattle.turn_lock.specs.Sights.{Sight, IsMeeting, IsLegal}
use Rattle.turn_lock.proofs.PairsOfNumbers.{own-append, own-here, own-else, own-seen}

module _ {E : Type 0} where
  own-rest : (n : ℕ) (seen rest : List (ℕ × E)) → NoneOf n rest → own n (seen ++ rest) ≡ own n seen
  own-rest n seen rest free = own-append n seen rest ∙ (ap (λ z. own n seen ++ z) free ∙ append-nil (own n seen))

  -- a pair that was added is its number's last, and no other's
  own-grown : (n : ℕ) (before after : List (ℕ × E)) → IsGrown n before after
      → (own n after ≡ own n before) ⊎ ((entry : E) × (own n after ≡ own n before ++ entry ∷ []))
  own-grown n before after g = ⊎_elim (λ (e : after ≡ before). inl (ap (own n) e))
      (λ (t : (entry : E) × (after ≡ before ++ (n, entry) ∷ [])). inr (
        t.0,
        ap (own n) t.1 ∙ (own-append n before ((n, t.0) ∷ []) ∙ ap (λ z. own n before ++ z)
            (own-here n (n, t.0) [] refl)),
      )) g

  own-same : (n m : ℕ) (before after : List (ℕ × E)) → n ≢ m → IsGrown n before after → own m after ≡ own m before
  own-same n m before after other g = ⊎_elim (λ (e : after ≡ before). ap (own m) e)
      (λ (t : (entry : E) × (after ≡ before ++ (n, entry) ∷ [])).
      ap (own m) t.1 ∙ (own-append m before ((n, t.0) ∷ []) ∙
      (ap (λ z. own m before ++ z) (own-else m (n, t.0) [] other) ∙ append-nil (own m before)))) g

  total-same : (ns : List ℕ) (a b : List (ℕ × E)) → ((n : ℕ) → IsIn n ns → own n b ≡ own n a) → total ns b ≡ total ns a
  total-same [] a b f = refl
  total-same (n ∷ ns) a b f =
      let t = total-same ns a b (λ m i. f m (inr i)) in
      let l = ap length (f n (inl refl)) in omega arith

module _ {E C Call Reply : Type 0} {Rule : C → List (ℕ × E) → Call → List (ℕ × E) → Call → Reply → Type 0}
    (seat : Sight E C) (call : Call) (after : List (ℕ × E)) (call' : Call) (reply : Reply)
    (k : IsLegal Rule seat call after call' reply) where
  -- after a turn the seat's own pairs are as before, or one more
  pub own-turn : (own seat.number after ≡ own seat.number seat.seen) ⊎
      ((entry : E) × (own seat.number after ≡ own seat.number seat.seen ++ entry ∷ []))
  own-turn = subst (λ z. (own seat.number after ≡ z) ⊎ ((entry : E) × (own seat.number after ≡ z ++ entry ∷ [])))
      (own-rest seat.number seat.seen k.rest k.apart) (own-grown seat.number (seat.seen ++ k.rest) after k.grows)

  -- those of a seat that was taken in stay as they are
  pub own-taken : (n : ℕ) → IsIn n seat.taken → seat.number ≢ n → own n after ≡ own n seat.seen
  own-taken n i other = own-same seat.number n (seat.seen ++ k.rest) after other k.grows ∙ own-rest n seat.seen k.rest
      (k.settled n i)

  pub total-taken : (IsIn seat.number seat.taken → ⊥) → total seat.taken after ≡ total seat.taken seat.seen
  total-taken apart = total-same seat.taken seat.seen after
      (λ n i. own-taken n i (λ e. apart (subst (λ m. IsIn m seat.taken) (sym e) i)))

-- a meeting adds the other's own pairs to the total
pub total-meeting : {E C : Type 0} (seat other : Sight E C) (h : List (ℕ × E)) → IsMeeting seat other h
    → total (seat.number ∷ other.number ∷ seat.taken) h ≡ total (seat.number ∷ seat.taken) seat.seen + length
    (own other.number other.seen)
total-meeting seat other h k =
    let a = ap length (own-seen h seat.seen seat.number k.mine) in
    let b = ap length (own-seen h other.seen other.number k.theirs) in
    let t = total-same seat.taken seat.seen h (λ n i. own-seen h seat.seen n (k.taken n i)) in omega arith
