-- Objects that are taken out.
use Rattle.std.proofs.Common.{◌≡◌, ◌≢◌, ℕ, suc, ◌+◌, ◌<◌, List, [], ◌∷◌, length, get_or, filter, count_by, Bool, true, false, not, eqb, if◌then◌else◌, Option, Some, None, IsSomeAnd, refl, sym, ap, ◌∙◌, arith}
use Rattle.std.specs.List.{remove}
use Rattle.std.proofs.lemmas.List.{get_or_default}
use Rattle.std.proofs.lemmas.List.Edits.{length-remove}
use Rattle.std.proofs.lemmas.List.Filters.{length-filter_both}
use Rattle.std.proofs.lemmas.List.Sums.{length-filter}
use Rattle.std.proofs.lemmas.Bool.Decides.{nat_tests}
use Rattle.slab.specs.Slab.{Slab, get, slab_len, Updates}
use Rattle.relay_objects.specs.declared.place.Place.{Place}
use Rattle.relay_objects.specs.declared.object.Object.{Object}
use Rattle.relay_objects.specs.Objects.{find, not_label, not_peer}
use Rattle.relay_objects.specs.Places.{no_place, label_at, key_at, key_in, put, named, IsAt, Held, Stands, IsPlaceOf, HasNoPlace, KeepsOthers}
use Rattle.relay_objects.proofs.RisingNumbers.{one_number, rises_filtered}
use Rattle.relay_objects.proofs.SiftedLists.{filter_keeps, remove_filters}
use Rattle.relay_objects.proofs.SearchedPlaces.{label_of, key_at_place, key_absent}
use Rattle.relay_objects.proofs.NamedObjects.{held_at, label_there, at_key, find_named}

module _ (s t : Slab Object) (q : Place → Bool) (r : Object → Bool) where
  -- both tests say the same, and a place that passes names what it did
  abbrev pub Sifted : List Place → Type 0
  Sifted [] = Unit {0}
  Sifted (p ∷ ps) = ((o : Object) → IsAt p o → r o ≡ q p) × (q p ≡ true → get t p.key ≡ get s p.key) × Sifted ps

  passes : (p : Place) (slot : Option Object) (b : Bool) (ps : List Place) (os : List Object) →
      IsSomeAnd slot (IsAt p) → ((o : Object) → IsAt p o → r o ≡ b) → (b ≡ true → get t p.key ≡ slot) →
      named t ps ≡ filter r os → named t (if b then p ∷ ps else ps) ≡ filter r (put slot os)
  passes p None b ps os held agree same rest = absurd held
  passes p (Some o) true ps os held agree same rest = rw (same refl, rest, agree o held) refl
  passes p (Some o) false ps os held agree same rest = rw (rest, agree o held) refl

  pub named_sifted : (ps : List Place) → Held s ps → Sifted ps → named t (filter q ps) ≡ filter r (named s ps)
  named_sifted [] held f = refl
  named_sifted (p ∷ ps) held f =
      passes p (get s p.key) (q p) (filter q ps) (named s ps) held.0 f.0 f.1 (named_sifted ps held.1 f.2)

  held_if : (p : Place) (b : Bool) (ps : List Place) → IsSomeAnd (get s p.key) (IsAt p) →
      (b ≡ true → get t p.key ≡ get s p.key) → Held t ps → Held t (if b then p ∷ ps else ps)
  held_if p true ps held same rest = (rw (same refl) held, rest)
  held_if p false ps held same rest = rest

  held_sifted : (ps : List Place) → Held s ps → Sifted ps → Held t (filter q ps)
  held_sifted [] held f = tt
  held_sifted (p ∷ ps) held f = held_if p (q p) (filter q ps) held.0 f.1 (held_sifted ps held.1 f.2)

  pub stands_sifted : (ps : List Place) → Stands s ps → Sifted ps → slab_len t ≡ length (filter q ps) →
      Stands t (filter q ps)
  stands_sifted ps stands f counted =
      record {
        counted = counted;
        rise = rises_filtered label_of q ps 0 stands.rise;
        held = held_sifted ps stands.held f;
      }

abbrev pub other_label : ℕ → Place → Bool
other_label x p = not (eqb p.label x)

abbrev pub other_peer : ℕ → Place → Bool
other_peer x p = not (eqb p.peer x)

agree_label : (x : ℕ) (p : Place) (o : Object) → IsAt p o → not_label x o ≡ other_label x p
agree_label x p o at = rw at.same_label refl

module _ (s : Slab Object) (ps : List Place) (stands : Stands s ps) (x : ℕ) where
  module _ (i : ℕ) (at : IsPlaceOf ps x i) where
    out : (d : Place) → other_label x (get_or ps i d) ≡ false
    out d =
        let here = get_or_default ps i d no_place at.within in
        let same : (get_or ps i d).label ≡ x = ap label_of here ∙ at.has_label in
        grind (arith, nat_tests)

    others_stay : (k : ℕ) (d : Place) → k < length ps → k ≢ i → other_label x (get_or ps k d) ≡ true
    others_stay k d lt differs =
        let here = get_or_default ps k d no_place lt in
        let apart : label_at ps k ≢ x =
        λ same. differs
        (one_number label_of ps 0 k i no_place stands.rise lt at.within (same ∙ sym at.has_label)) in
        let label : (get_or ps k d).label ≡ label_at ps k = ap label_of here in
        grind (arith, nat_tests, apart)

    pub places_left : remove ps i ≡ filter (other_label x) ps
    places_left = remove_filters (other_label x) ps i at.within out others_stay

  pub none_left : HasNoPlace ps x → ps ≡ filter (other_label x) ps
  none_left none = filter_keeps (other_label x) ps (λ k d lt.
      let here : (get_or ps k d).label ≡ label_at ps k = ap label_of (get_or_default ps k d no_place lt) in
      grind (arith, nat_tests, none k lt))

module _ (s t : Slab Object) (x key : ℕ) (o : Object) (found : get s key ≡ Some o) (label : o.label ≡ x)
    (updates : Updates s t key None) where
  stays : (p : Place) (slot : Option Object) → get s p.key ≡ slot → IsSomeAnd slot (IsAt p) → other_label x p ≡ true →
      get t p.key ≡ get s p.key
  stays p None is held other = absurd held
  stays p (Some v) is held other = updates.others p.key (λ same.
      let there = rw same at is in
      let one : v ≡ o = grind arith in
      let here : p.label ≡ x = sym held.same_label ∙ ap (λ w. w.label) one ∙ label in
      grind (arith, nat_tests))

  sifted_label : (ps : List Place) → Held s ps → Sifted s t (other_label x) (not_label x) ps
  sifted_label [] held = tt
  sifted_label (p ∷ ps) held = (agree_label x p, stays p (get s p.key) refl held.0, sifted_label ps held.1)

sifted_absent : (s : Slab Object) (x : ℕ) (ps : List Place) → Sifted s s (other_label x) (not_label x) ps
sifted_absent s x [] = tt
sifted_absent s x (p ∷ ps) = (agree_label x p, λ other. refl, sifted_absent s x ps)

agree_peer : (x : ℕ) (p : Place) (o : Object) → IsAt p o → not_peer x o ≡ other_peer x p
agree_peer x p o at = rw at.same_peer refl

pub sifted_peer : (s t : Slab Object) (x : ℕ) (ps : List Place) → KeepsOthers s t ps x →
    Sifted s t (other_peer x) (not_peer x) ps
sifted_peer s t x [] keeps = tt
sifted_peer s t x (p ∷ ps) keeps = (
  agree_peer x p,
  λ other. keeps 0 (omega arith) (λ same. grind (arith, nat_tests)),
  sifted_peer s t x ps (λ i lt. keeps (suc i) (omega arith)),
)

module _ (s t : Slab Object) (ps : List Place) (stands : Stands s ps) (x i : ℕ) (at : IsPlaceOf ps x i) (p : Place)
    (is : p ≡ get_or ps i p) (o : Object) (found : get s p.key ≡ Some o) (updates : Updates s t p.key None) where
  found_label : o.label ≡ x
  found_label =
      let here : p ≡ get_or ps i no_place = is ∙ get_or_default ps i p no_place at.within in
      label_there (get_or ps i no_place) o (get s (key_at ps i)) (rw here at found)
      (held_at s ps i stands.held at.within) ∙ at.has_label

  sifted : Sifted s t (other_label x) (not_label x) ps
  sifted = sifted_label s t x p.key o found found_label updates ps stands.held

  pub stands_removed : slab_len t + 1 ≡ slab_len s → Stands t (remove ps i)
  stands_removed len =
      let shorter = length-remove ps i at.within in
      let fewer : slab_len t ≡ length (remove ps i) = omega (arith, stands.counted) in
      let left = places_left s ps stands x i at in
      rw left (stands_sifted s t (other_label x) (not_label x) ps stands sifted (rw left at fewer))

  pub items_removed : named t (remove ps i) ≡ filter (not_label x) (named s ps)
  items_removed =
      rw (places_left s ps stands x i at) (named_sifted s t (other_label x) (not_label x) ps stands.held sifted)

  -- it was the object with the label
  pub found_removed : Some o ≡ find (named s ps) x
  found_removed =
      let here : p ≡ get_or ps i no_place = is ∙ get_or_default ps i p no_place at.within in
      let key : Some p.key ≡ key_in ps x = ap (λ v. Some v.key) here ∙ key_at_place ps 0 x i stands.rise at in
      sym found ∙ ap (at_key s) key ∙ sym (find_named s ps x stands.held)

pub find_none : (s : Slab Object) (ps : List Place) (x : ℕ) → Stands s ps → HasNoPlace ps x → None ≡ find (named s ps) x
find_none s ps x stands none = ap (at_key s) (key_absent ps x none) ∙ sym (find_named s ps x stands.held)

pub items_kept : (s : Slab Object) (ps : List Place) (x : ℕ) → Stands s ps → HasNoPlace ps x →
    named s ps ≡ filter (not_label x) (named s ps)
items_kept s ps x stands none =
    ap (named s) (none_left s ps stands x none)
    ∙ named_sifted s s (other_label x) (not_label x) ps stands.held (sifted_absent s x ps)

-- two places have two keys
keys_apart : (s : Slab Object) (ps : List Place) (i j : ℕ) → Stands s ps → i < length ps → j < length ps → i ≢ j →
    key_at ps i ≢ key_at ps j
keys_apart s ps i j stands in_i in_j differs same = clash (get s (key_at ps i)) refl (held_at s ps i stands.held in_i)
  where
    clash : (slot : Option Object) → get s (key_at ps i) ≡ slot → IsSomeAnd slot (IsAt (get_or ps i no_place)) → ⊥
    clash None is held = absurd held
    clash (Some v) is held =
        let other : v.label ≡ label_at ps j =
        label_there (get_or ps j no_place) v (get s (key_at ps i)) is (rw same (held_at s ps j stands.held in_j)) in
        differs (one_number label_of ps 0 i j no_place stands.rise in_i in_j (sym held.same_label ∙ other))

-- emptying the slot of one place keeps the others'
pub others_kept : (s now next : Slab Object) (ps : List Place) (i : ℕ) → Stands s ps → i < length ps →
    Updates now next (key_at ps i) None →
    (j : ℕ) → j < length ps → j ≢ i → get now (key_at ps j) ≡ get s (key_at ps j) →
    get next (key_at ps j) ≡ get s (key_at ps j)
others_kept s now next ps i stands lt updates j within differs same =
    updates.others (key_at ps j) (keys_apart s ps j i stands within lt differs) ∙ same

pub count_others : (ps : List Place) (x : ℕ) →
    length (filter (other_peer x) ps) + count_by (λ p. eqb p.peer x) ps ≡ length ps
count_others ps x =
    let both = length-filter_both (λ p. eqb p.peer x) (other_peer x) (λ p. refl) ps in
    let count = length-filter (λ p. eqb p.peer x) ps in
    omega arith
