-- The pairs of a number within a history, within its beginnings, and of what is past them
use Rattle.std.proofs.Common.{◌≡◌, ◌≢◌, ℕ, ◌<◌, ◌≤◌, Bool, true, false, cond, List, [], ◌∷◌, ◌++◌, length, sym, refl, ap, ◌∙◌, subst, arith, append-nil, nat_lt, eq-eqb, ne_eqb}
use mathlib.Core.Logic.{dite}
use native.Mathlib.Decide.{ℕ_discrete}
use Rattle.std.proofs.lemmas.List.{append_assoc}
use Rattle.std.proofs.lemmas.Bool.{ltb-true, ltb-false}
use Rattle.turn_lock.specs.Pairs.{own, NoneOf, HasSeen, longer}

front_nil : {X : Type 0} (xs ys : List X) → xs ++ ys ≡ [] → xs ≡ []
front_nil [] ys e = refl
front_nil (x ∷ xs) ys e = absurd (cc)

back_nil : {X : Type 0} (xs ys : List X) → xs ++ ys ≡ [] → ys ≡ []
back_nil [] ys e = e
back_nil (x ∷ xs) ys e = absurd (cc)

module _ {E : Type 0} where
  pub own-here : (n : ℕ) (x : ℕ × E) (xs : List (ℕ × E)) → x.0 ≡ n → own n (x ∷ xs) ≡ x.1 ∷ own n xs
  own-here n x xs e = ap (λ b. cond b (x.1 ∷ own n xs) (own n xs)) (eq-eqb x.0 n e)

  pub own-else : (n : ℕ) (x : ℕ × E) (xs : List (ℕ × E)) → x.0 ≢ n → own n (x ∷ xs) ≡ own n xs
  own-else n x xs other = ap (λ b. cond b (x.1 ∷ own n xs) (own n xs)) (ne_eqb x.0 n other)

  pub own-append : (n : ℕ) (xs ys : List (ℕ × E)) → own n (xs ++ ys) ≡ own n xs ++ own n ys
  own-append n [] ys = refl
  own-append n (x ∷ xs) ys = dite (ℕ_discrete x.0 n)
      (λ e. own-here n x (xs ++ ys) e ∙ (ap (λ z. x.1 ∷ z) (own-append n xs ys) ∙ ap (λ z. z ++ own n ys)
      (sym (own-here n x xs e))))
      (λ e. own-else n x (xs ++ ys) e ∙ (own-append n xs ys ∙ ap (λ z. z ++ own n ys) (sym (own-else n x xs e))))

  pub none-append : (n : ℕ) (xs ys : List (ℕ × E)) → NoneOf n xs → NoneOf n ys → NoneOf n (xs ++ ys)
  none-append n xs ys a b = own-append n xs ys ∙ (ap (λ z. z ++ own n ys) a ∙ b)

  pub none-front : (n : ℕ) (xs ys : List (ℕ × E)) → NoneOf n (xs ++ ys) → NoneOf n xs
  none-front n xs ys a = front_nil (own n xs) (own n ys) (sym (own-append n xs ys) ∙ a)

  pub none-back : (n : ℕ) (xs ys : List (ℕ × E)) → NoneOf n (xs ++ ys) → NoneOf n ys
  none-back n xs ys a = back_nil (own n xs) (own n ys) (sym (own-append n xs ys) ∙ a)

  pub none-pair : (n m : ℕ) (e : E) → m ≢ n → NoneOf n ((m, e) ∷ [])
  none-pair n m e other = own-else n (m, e) [] other

  -- a history with no pair of any number is empty
  pub none-nil : (h : List (ℕ × E)) → ((n : ℕ) → NoneOf n h) → h ≡ []
  none-nil [] none_of = refl
  none-nil (x ∷ xs) none_of = let e : x.1 ∷ own x.0 xs ≡ [] = sym (own-here x.0 x xs refl) ∙ none_of x.0 in absurd (cc)

  pub has-all : (h : List (ℕ × E)) (n : ℕ) → HasSeen h n h
  has-all h n = ([], sym (append-nil h), refl)

  pub has-more : (h more seen : List (ℕ × E)) (n : ℕ) → NoneOf n more → HasSeen h n seen → HasSeen (h ++ more) n seen
  has-more h more seen n free s =
      (s.0 ++ more, ap (λ z. z ++ more) s.1 ∙ append_assoc seen s.0 more, none-append n s.0 more s.2 free)

  -- of two beginnings of one history the shorter begins the longer
  beginnings : (a ra b rb : List (ℕ × E)) → a ++ ra ≡ b ++ rb → length a ≤ length b
      → (mid : List (ℕ × E)) × (b ≡ a ++ mid) × (ra ≡ mid ++ rb)
  beginnings [] ra b rb e le = (b, refl, e)
  beginnings (x ∷ a) ra [] rb e le = absurd (omega arith)
  beginnings (x ∷ a) ra (y ∷ b) rb e le =
      let same : y ≡ x = cc in
      let tail : a ++ ra ≡ b ++ rb = cc in
      let q = beginnings a ra b rb tail (omega arith) in (q.0, (λ i. same i ∷ q.1 i), q.2)

  -- what is so past one beginning is so past a longer one
  pub has-longer : (h a b rest : List (ℕ × E)) (n : ℕ) → HasSeen h n a → h ≡ b ++ rest → length a ≤ length b
      → HasSeen h n b
  has-longer h a b rest n s e le =
      let q = beginnings a s.0 b rest (sym s.1 ∙ e) le in (rest, e, none-back n q.0 rest (subst (NoneOf n) q.2 s.2))

  pub has-between : (h a b rest : List (ℕ × E)) (n : ℕ) → HasSeen h n a → h ≡ b ++ rest → length a ≤ length b
      → HasSeen b n a
  has-between h a b rest n s e le =
      let q = beginnings a s.0 b rest (sym s.1 ∙ e) le in (q.0, q.1, none-front n q.0 rest (subst (NoneOf n) q.2 s.2))

  -- a seat's own pairs are those that it has seen
  pub own-seen : (h seen : List (ℕ × E)) (n : ℕ) → HasSeen h n seen → own n h ≡ own n seen
  own-seen h seen n s =
      ap (own n) s.1 ∙ (own-append n seen s.0 ∙ (ap (λ z. own n seen ++ z) s.2 ∙ append-nil (own n seen)))

  longer_by : (P : List (ℕ × E) → Type 0) (xs ys : List (ℕ × E)) → (length xs < length ys → P ys)
      → (length ys ≤ length xs → P xs)
      → (b : Bool) → nat_lt (length xs) (length ys) ≡ b → P (cond b ys xs)
  longer_by P xs ys up down true e = up (ltb-true (length xs) (length ys) e)
  longer_by P xs ys up down false e = down (ltb-false (length xs) (length ys) e)

  -- the longer of two lists has what each has where it is the longer
  pub longer-cases : (P : List (ℕ × E) → Type 0) (xs ys : List (ℕ × E)) → (length xs < length ys → P ys)
      → (length ys ≤ length xs → P xs)
      → P (longer xs ys)
  longer-cases P xs ys up down = longer_by P xs ys up down (nat_lt (length xs) (length ys)) refl

  same_rest : (a r s : List (ℕ × E)) → a ++ r ≡ a ++ s → r ≡ s
  same_rest [] r s e = e
  same_rest (x ∷ a) r s e = let tail : a ++ r ≡ a ++ s = cc in same_rest a r s tail

  -- what is past the same beginning is the same for all numbers
  pub none-past : (h seen rest : List (ℕ × E)) (n : ℕ) → h ≡ seen ++ rest → HasSeen h n seen → NoneOf n rest
  none-past h seen rest n e s = subst (NoneOf n) (same_rest seen s.0 rest (sym s.1 ∙ e)) s.2
