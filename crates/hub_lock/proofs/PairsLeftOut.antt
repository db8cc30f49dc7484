-- A history without the pairs that a view leaves out: what is told of the whole is told of it
use Rattle.std.proofs.Common.{◌≡◌, ◌≢◌, ℕ, suc, ◌+◌, ◌<◌, ◌≤◌, List, [], ◌∷◌, ◌++◌, length, Option, Some, None, refl, ap, sym, subst, ◌∙◌, inl, inr, ⊎_elim, arith, append-nil, length-append}
use mathlib.Core.Logic.{dite}
use native.Mathlib.Decide.{ℕ_discrete}
use Rattle.std.proofs.lemmas.Bool.{le-ltb}
use Rattle.turn_lock.specs.Pairs.{own, NoneOf, HasSeen, IsGrown, IsDistinct, longer, total}
use Rattle.turn_lock.specs.Sights.{Sight, IsMeeting, IsTallied, met_with}
use Rattle.hub_lock.specs.Shown.{with_shown, shown, shown_sight}
use Rattle.turn_lock.proofs.PairsOfNumbers.{own-here, own-else, longer-cases}
use Rattle.turn_lock.proofs.TotalsOfPairs.{hits, hits-once, total-cons, total-few}

module _ {A B : Type 0} (f : A → Option B) where
  append_by : (n : ℕ) (o : Option B) (a b c : List (ℕ × B)) → a ≡ b ++ c → with_shown f n o a ≡ with_shown f n o b ++ c
  append_by n None a b c e = e
  append_by n (Some s) a b c e = ap (λ z. (n, s) ∷ z) e

  pub shown-append : (xs ys : List (ℕ × A)) → shown f (xs ++ ys) ≡ shown f xs ++ shown f ys
  shown-append [] ys = refl
  shown-append (x ∷ xs) ys =
      append_by x.0 (f x.1) (shown f (xs ++ ys)) (shown f xs) (shown f ys) (shown-append xs ys)

  none_by : (n m : ℕ) (o : Option B) (h : List (ℕ × B)) → m ≢ n → NoneOf n h → NoneOf n (with_shown f m o h)
  none_by n m None h other free = free
  none_by n m (Some s) h other free = own-else n (m, s) h other ∙ free

  pub none-shown : (n : ℕ) (xs : List (ℕ × A)) → NoneOf n xs → NoneOf n (shown f xs)
  none-shown n [] free = refl
  none-shown n (x ∷ xs) free = dite (ℕ_discrete x.0 n)
      (λ e. let e' : x.1 ∷ own n xs ≡ [] = sym (own-here n x xs e) ∙ free in absurd (cc))
      (λ other. none_by n x.0 (f x.1) (shown f xs) other (none-shown n xs (sym (own-else n x xs other) ∙ free)))

  pub has-shown : (h seen : List (ℕ × A)) (n : ℕ) → HasSeen h n seen → HasSeen (shown f h) n (shown f seen)
  has-shown h seen n s = (shown f s.0, ap (shown f) s.1 ∙ shown-append seen s.0, none-shown n s.0 s.2)

  grown_by : (n : ℕ) (o : Option B) (a b : List (ℕ × B)) → b ≡ a ++ with_shown f n o [] → IsGrown n a b
  grown_by n None a b e = inl (e ∙ append-nil a)
  grown_by n (Some s) a b e = inr (s, e)

  pub grown-shown : (n : ℕ) (a b : List (ℕ × A)) → IsGrown n a b → IsGrown n (shown f a) (shown f b)
  grown-shown n a b g = ⊎_elim (λ (e : b ≡ a). inl (ap (shown f) e))
      (λ (t : (x : A) × (b ≡ a ++ (n, x) ∷ [])).
      grown_by n (f t.0) (shown f a) (shown f b) (ap (shown f) t.1 ∙ shown-append a ((n, t.0) ∷ []))) g

  -- how many there are

  few_by : (n : ℕ) (o : Option B) (h : List (ℕ × B)) (k : ℕ) → length h ≤ k → length (with_shown f n o h) ≤ suc k
  few_by n None h k l = omega arith
  few_by n (Some s) h k l = omega arith

  pub shown-few : (xs : List (ℕ × A)) → length (shown f xs) ≤ length xs
  shown-few [] = omega arith
  shown-few (x ∷ xs) = few_by x.0 (f x.1) (shown f xs) (length xs) (shown-few xs)

  total_few_by : (ns : List ℕ) (n : ℕ) (o : Option B) (h : List (ℕ × B)) (k : ℕ) → total ns h ≤ k
      → total ns (with_shown f n o h) ≤ hits ns n + k
  total_few_by ns n None h k l = omega arith
  total_few_by ns n (Some s) h k l = let c = total-cons ns (n, s) h in omega arith

  pub total-shown-few : (ns : List ℕ) (xs : List (ℕ × A)) → total ns (shown f xs) ≤ total ns xs
  total-shown-few [] [] = omega arith
  total-shown-few (n ∷ ns) [] = let r = total-shown-few ns [] in omega arith
  total-shown-few ns (x ∷ xs) =
      let c = total-cons ns x xs in
      let r = total_few_by ns x.0 (f x.1) (shown f xs) (total ns xs) (total-shown-few ns xs) in omega arith

  total_all_by : (ns : List ℕ) (n : ℕ) (o : Option B) (h : List (ℕ × B)) → hits ns n ≡ 1 → total ns h ≡ length h
      → total ns (with_shown f n o h) ≡ length (with_shown f n o h)
  total_all_by ns n None h hit e = e
  total_all_by ns n (Some s) h hit e = let c = total-cons ns (n, s) h in omega arith

  total_nil : (ns : List ℕ) → total ns (shown f []) ≡ 0
  total_nil [] = refl
  total_nil (n ∷ ns) = let r = total_nil ns in omega arith

  pub total-shown : (ns : List ℕ) (xs : List (ℕ × A)) → IsDistinct ns → total ns xs ≡ length xs
      → total ns (shown f xs) ≡ length (shown f xs)
  total-shown ns [] d e = total_nil ns
  total-shown ns (x ∷ xs) d e =
      let t = total-cons ns x xs in
      let few = total-few ns xs d in
      let once = hits-once ns x.0 d in
      let hit : hits ns x.0 ≡ 1 = omega arith in
      let whole : total ns xs ≡ length xs = omega arith in
      total_all_by ns x.0 (f x.1) (shown f xs) hit (total-shown ns xs d whole)

  -- the longer of two histories of which one begins the other

  none-more : (a r : List (ℕ × B)) → length (a ++ r) ≤ length a → a ++ r ≡ a
  none-more a [] l = append-nil a
  none-more a (x ∷ r) l = let n = length-append a (x ∷ r) in absurd (omega arith)

  begun-longer : (a b r : List (ℕ × B)) → b ≡ a ++ r → b ≡ longer a b
  begun-longer a b r e = longer-cases (λ z. b ≡ z) a b (λ less. refl)
      (λ more. e ∙ none-more a r (subst (λ z. length z ≤ length a) e more))

  not-longer : (a b : List (ℕ × B)) → length b ≤ length a → a ≡ longer a b
  not-longer a b l = rw (le-ltb (length a) (length b) l) refl

  longer_of : (xs ys : List (ℕ × A)) → (length xs < length ys → longer xs ys ≡ ys)
      × (length ys ≤ length xs → longer xs ys ≡ xs)
  longer_of xs ys = (
    longer-cases (λ z. length xs < length ys → z ≡ ys) xs ys (λ less less'. refl) (λ more less'. absurd (omega arith)),
    longer-cases (λ z. length ys ≤ length xs → z ≡ xs) xs ys (λ less more. absurd (omega arith)) (λ more more'. refl),
  )

  pub longer-shown : (xs ys : List (ℕ × A)) (n m : ℕ) → HasSeen (longer xs ys) n xs → HasSeen (longer xs ys) m ys
      → shown f (longer xs ys) ≡ longer (shown f xs) (shown f ys)
  longer-shown xs ys n m mine theirs = longer-cases (λ z. shown f z ≡ longer (shown f xs) (shown f ys)) xs ys
      (λ less. begun-longer (shown f xs) (shown f ys) (shown f mine.0)
      (ap (shown f) (sym ((longer_of xs ys).0 less) ∙ mine.1) ∙ shown-append xs mine.0))
      (λ more.
      let e : shown f xs ≡ shown f ys ++ shown f theirs.0 =
      ap (shown f) (sym ((longer_of xs ys).1 more) ∙ theirs.1) ∙ shown-append ys theirs.0 in
      let l = ap length e in
      let a = length-append (shown f ys) (shown f theirs.0) in
      not-longer (shown f xs) (shown f ys) (omega arith))

  pub tallied-shown : {C : Type 0} (s : Sight A C) → IsTallied s → IsTallied (shown_sight f s)
  tallied-shown s t = record {
    fresh = λ n le. none-shown n s.seen (t.fresh n le);
    apart = t.apart;
    once = t.once;
    few = let a = total-shown-few (0 ∷ s.taken) s.seen in let b = t.few in omega arith;
    all = λ none. total-shown (0 ∷ s.taken) s.seen (t.apart, t.once) (t.all none);
  }

  pub meeting-shown : {C : Type 0} (s other : Sight A C) (h : List (ℕ × A)) → IsMeeting s other h
      → IsMeeting (shown_sight f s) (shown_sight f other) (shown f h)
  meeting-shown s other h k = record {
    mine = has-shown h s.seen s.number k.mine;
    taken = λ n i. has-shown h s.seen n (k.taken n i);
    theirs = has-shown h other.seen other.number k.theirs;
  }

  pub met_shown : {C : Type 0} (s other : Sight A C) → IsMeeting s other (met_with s other).seen
      → shown_sight f (met_with s other) ≡ met_with (shown_sight f s) (shown_sight f other)
  met_shown {C} s other k =
      let made : List (ℕ × B) → Sight B C = λ h. record {
        turn = s.turn;
        number = s.number;
        constant = s.constant;
        seen = h;
        next = s.next;
        out = (met_with s other).out;
        taken = other.number ∷ s.taken;
      } in
      ap made (longer-shown s.seen other.seen s.number other.number k.mine k.theirs)
