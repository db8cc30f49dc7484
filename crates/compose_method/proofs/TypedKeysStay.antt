-- One more press changes nothing of what was typed before: only the keys that wait are read again.
use Rattle.std.proofs.Common.{◌≡◌, ℕ, zero, suc, ◌-◌, ◌<◌, ◌≤◌, Bool, true, false, ◌&&◌, List, [], ◌∷◌, ◌++◌, length, get_or, Option, Some, None, refl, sym, ◌∙◌, ap, ⊎_elim, ◌⊎◌, inl, inr, arith}
use Rattle.std.specs.Prelude.{nat_eq, nat_lt, All, find, is_some}
use Rattle.std.specs.List.{starts_with}
use Rattle.std.proofs.lemmas.Bool.{cases_Bool, and_parts, and_from, both_ways, false_from_ne_true, lt-ltb, ltb-true, eqb-true, eq-eqb, false≢true}
use Rattle.std.proofs.lemmas.List.{append_assoc, length-append}
use Rattle.std.proofs.lemmas.List.Folds.{list_any_at, list_any_none}
use Rattle.compose_method.specs.Table.{Table, IsTable, begun_by, going_on, own_text, AreApart}
use Rattle.compose_method.specs.Segments.{Segments, typing, segments_from}
use Rattle.compose_method.specs.declared.entries.Entry.{Entry}
use Rattle.compose_method.proofs.FoundByPlace.{find_is, find_none, find_none-all}

-- keys with one more begin with what they began with
begins-more : (e keys : List ℕ) (x : ℕ) → starts_with nat_eq keys e ≡ true →
    starts_with nat_eq (keys ++ x ∷ []) e ≡ true
begins-more [] keys x h = refl
begins-more (y ∷ e) [] x h = absurd (false≢true h)
begins-more (y ∷ e) (k ∷ ks) x h = let parts = and_parts _ _ h in and_from _ _ parts.0 (begins-more e ks x parts.1)

-- what begins keys with one more begins the keys, or begins with them and is longer
begins-less : (e keys : List ℕ) (x : ℕ) → starts_with nat_eq (keys ++ x ∷ []) e ≡ true
    → (starts_with nat_eq keys e ≡ true) ⊎ ((starts_with nat_eq e keys ≡ true) × (length keys < length e))
begins-less [] keys x h = inl refl
begins-less (y ∷ e) [] x h = inr (refl, omega arith)
begins-less (y ∷ e) (k ∷ ks) x h =
    let parts = and_parts _ _ h in
    let same : y ≡ k = eqb-true y k parts.0 in
    ⊎_elim (λ (l : starts_with nat_eq ks e ≡ true). inl (and_from _ _ parts.0 l))
    (λ (r : (starts_with nat_eq e ks ≡ true) × (length ks < length e)). inr
    (and_from _ _ (eq-eqb k y (sym same)) r.0, omega (arith, r.1)))
    (begins-less e ks x parts.1)

-- what begins with keys and one more begins with the keys
begun-less : (e keys : List ℕ) (x : ℕ) → starts_with nat_eq e (keys ++ x ∷ []) ≡ true → starts_with nat_eq e keys ≡ true
begun-less e [] x h = refl
begun-less [] (k ∷ ks) x h = absurd (false≢true h)
begun-less (y ∷ e) (k ∷ ks) x h = let parts = and_parts _ _ h in and_from _ _ parts.0 (begun-less e ks x parts.1)

-- of two lists that begin one, one begins the other
both_begin : (a b c : List ℕ) → starts_with nat_eq c a ≡ true → starts_with nat_eq c b ≡ true →
    (starts_with nat_eq a b ≡ true) ⊎ (starts_with nat_eq b a ≡ true)
both_begin [] b c h k = inr refl
both_begin (x ∷ a) [] c h k = inl refl
both_begin (x ∷ a) (y ∷ b) [] h k = absurd (false≢true h)
both_begin (x ∷ a) (y ∷ b) (z ∷ c) h k =
    let first = and_parts _ _ h in
    let second = and_parts _ _ k in
    let same : x ≡ y = eqb-true x z first.0 ∙ sym (eqb-true y z second.0) in
    ⊎_elim (λ (l : starts_with nat_eq a b ≡ true). inl (and_from _ _ (eq-eqb y x (sym same)) l))
    (λ (r : starts_with nat_eq b a ≡ true). inr (and_from _ _ (eq-eqb x y same) r))
    (both_begin a b c first.1 second.1)

-- what begins keys is no longer than they are
pub begins-length : (e keys : List ℕ) → starts_with nat_eq keys e ≡ true → length e ≤ length keys
begins-length [] keys h = omega arith
begins-length (y ∷ e) [] h = absurd (false≢true h)
begins-length (y ∷ e) (k ∷ ks) h =
    let parts = and_parts _ _ h in
    let deeper : length e ≤ length ks = begins-length e ks parts.1 in
    omega arith

-- where what is found stands
pub found_at : {X : Type 0} (p : X → Bool) (xs : List X) (x : X) → find p xs ≡ Some x →
    (i : ℕ) × (i < length xs) × (get_or xs i x ≡ x) × (p x ≡ true)
found_at p [] x h = (cc)
found_at p (y ∷ ys) x h =
    ⊎_elim (λ (yes : p y ≡ true).
    let same : Some y ≡ Some x = rw yes at h in
    let here : y ≡ x = cc in
    (0, omega arith, here, rw (← here) yes))
    (λ (no : p y ≡ false).
    let later = found_at p ys x (rw no at h) in
    (suc later.0, omega (arith, later.1), later.2, later.3))
    (cases_Bool (p y))

begun_by-more : (entries : List Entry) (keys : List ℕ) (x : ℕ) (e : Entry) → AreApart entries →
    begun_by entries keys ≡ Some e → begun_by entries (keys ++ x ∷ []) ≡ Some e
begun_by-more entries keys x e apart h =
    let p : Entry → Bool = λ d. starts_with nat_eq (keys ++ x ∷ []) d.keys in
    let there = found_at (λ d. starts_with nat_eq keys d.keys) entries e h in
    let i : ℕ = there.0 in
    let read : get_or entries i e ≡ e = there.2 in
    let passes : p e ≡ true = begins-more e.keys keys x there.3 in
    find_is p entries i e there.1 (rw read passes)
    (λ k below. false_from_ne_true (p (get_or entries k e))
    (λ yes.
    let other : List ℕ = (get_or entries k e).keys in
    let alone = rw read at (apart k i e below there.1) in
    ⊎_elim (λ (l : starts_with nat_eq other e.keys ≡ true). both_ways _ alone.0 l)
    (λ (r : starts_with nat_eq e.keys other ≡ true). both_ways _ alone.1 r)
    (both_begin other e.keys (keys ++ x ∷ []) yes passes)))
    ∙ ap Some read

none-more : (entries : List Entry) (keys : List ℕ) (x : ℕ) → begun_by entries keys ≡ None →
    going_on entries keys ≡ false → begun_by entries (keys ++ x ∷ []) ≡ None
none-more entries keys x h g =
    let none : All (λ d. starts_with nat_eq keys d.keys ≡ false) entries =
    find_none-all (λ d. starts_with nat_eq keys d.keys) entries (ap is_some h) in
    find_none (λ d. starts_with nat_eq (keys ++ x ∷ []) d.keys) entries
    (λ k d within. false_from_ne_true (starts_with nat_eq (keys ++ x ∷ []) (get_or entries k d).keys)
    (λ yes. ⊎_elim
    (λ (l : starts_with nat_eq keys (get_or entries k d).keys ≡ true). both_ways _ (none k d within) l)
    (λ (r : (starts_with nat_eq (get_or entries k d).keys keys ≡ true)
    × (length keys < length (get_or entries k d).keys)).
    both_ways (going_on entries keys) g
    (list_any_at (λ e. starts_with nat_eq e.keys keys && nat_lt (length keys) (length e.keys)) entries k d within
    (and_from _ _ r.0 (lt-ltb _ _ r.1))))
    (begins-less (get_or entries k d).keys keys x yes)))

going_on-more : (entries : List Entry) (keys : List ℕ) (x : ℕ) → going_on entries keys ≡ false →
    going_on entries (keys ++ x ∷ []) ≡ false
going_on-more entries keys x g =
    list_any_none
    (λ e. starts_with nat_eq e.keys (keys ++ x ∷ []) && nat_lt (length (keys ++ x ∷ [])) (length e.keys)) entries
    (λ k d within. false_from_ne_true
    (starts_with nat_eq (get_or entries k d).keys (keys ++ x ∷ [])
    && nat_lt (length (keys ++ x ∷ [])) (length (get_or entries k d).keys))
    (λ yes.
    let parts = and_parts _ _ yes in
    let begins : starts_with nat_eq (get_or entries k d).keys keys ≡ true =
    begun-less (get_or entries k d).keys keys x parts.0 in
    let longer : length keys < length (get_or entries k d).keys =
    omega (arith, ltb-true _ _ parts.1, length-append keys (x ∷ [])) in
    both_ways (going_on entries keys) g
    (list_any_at (λ e. starts_with nat_eq e.keys keys && nat_lt (length keys) (length e.keys)) entries k d within
    (and_from _ _ begins (lt-ltb _ _ longer)))))

-- the segments so far, with those of the keys that wait and one more
abbrev pub with_press : Table → Segments → ℕ → Segments
with_press t s x = typing s.typed (segments_from t (s.rest ++ x ∷ []) 0)

typing-press : (t : Table) (text : List ℕ) (s : Segments) (x : ℕ) →
    typing text (with_press t s x) ≡ with_press t (typing text s) x
typing-press t text s x =
    let later : Segments = segments_from t (s.rest ++ x ∷ []) 0 in
    ap (λ all. record { typed = all; rest = later.rest }) (sym (append_assoc text s.typed later.typed))

pub segments-more : (t : Table) (keys : List ℕ) (passed x : ℕ) → IsTable t → passed ≤ length keys
    → segments_from t (keys ++ x ∷ []) passed ≡ with_press t (segments_from t keys passed) x
segments-more t [] zero x h within = refl
segments-more t [] (suc n) x h within = absurd (omega arith)
segments-more t (k ∷ ks) (suc n) x h within = segments-more t ks n x h (omega arith)
segments-more t (k ∷ ks) zero x h within =
    by (begun_by t.entries (k ∷ ks)) (going_on t.entries (k ∷ ks)) refl refl
    (λ n inside. segments-more t ks n x h inside)
  where
    by : (o : Option Entry) (g : Bool) → begun_by t.entries (k ∷ ks) ≡ o → going_on t.entries (k ∷ ks) ≡ g
        → ((n : ℕ) → n ≤ length ks → segments_from t (ks ++ x ∷ []) n ≡ with_press t (segments_from t ks n) x)
        → segments_from t (k ∷ (ks ++ x ∷ [])) 0 ≡ with_press t (segments_from t (k ∷ ks) 0) x
    by (Some e) g o_is g_is later =
        let more : begun_by t.entries (k ∷ (ks ++ x ∷ [])) ≡ Some e =
        begun_by-more t.entries (k ∷ ks) x e h.apart o_is in
        let there = found_at (λ d. starts_with nat_eq (k ∷ ks) d.keys) t.entries e o_is in
        let few : length e.keys ≤ length (k ∷ ks) = begins-length e.keys (k ∷ ks) there.3 in
        rw (more, o_is, later (length e.keys - 1) (omega arith))
        (typing-press t e.text (segments_from t ks (length e.keys - 1)) x)
    by None true o_is g_is later = rw (o_is, g_is) refl
    by None false o_is g_is later =
        let none : begun_by t.entries (k ∷ (ks ++ x ∷ [])) ≡ None = none-more t.entries (k ∷ ks) x o_is g_is in
        let done : going_on t.entries (k ∷ (ks ++ x ∷ [])) ≡ false = going_on-more t.entries (k ∷ ks) x g_is in
        rw (none, done, o_is, g_is, later 0 (omega arith)) (typing-press t (own_text t k) (segments_from t ks 0) x)
