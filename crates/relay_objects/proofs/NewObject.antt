-- One object more, behind the others.
use Rattle.std.proofs.Common.{◌≡◌, ℕ, ◌+◌, ◌<◌, ◌≤◌, List, [], ◌∷◌, ◌++◌, map, filter, length-append, count_by, is_some, Bool, true, false, if◌then◌else◌, Option, Some, None, IsSomeAnd, refl, ap, ◌∙◌, arith}
use Rattle.slab.specs.Slab.{Slab, get, slab_len, Updates}
use Rattle.relay_objects.specs.declared.place.Place.{Place}
use Rattle.relay_objects.specs.declared.object.Object.{Object}
use Rattle.relay_objects.specs.Rising.{RisesBy}
use Rattle.relay_objects.specs.Labels.{IsNew}
use Rattle.relay_objects.specs.Places.{put, named, IsAt, Held, Stands}
use Rattle.relay_objects.proofs.SearchedPlaces.{label_of}

-- labels below a number

pub new_later : (os : List Object) (x y : ℕ) → IsNew os x → x ≤ y → IsNew os y
new_later [] x y new le = tt
new_later (o ∷ os) x y new le = (omega (arith, new.0), new_later os x y new.1 le)

pub new_mapped : (g : Object → Object) → ((o : Object) → (g o).label ≡ o.label) → (os : List Object) (x : ℕ) →
    IsNew os x → IsNew (map g os) x
new_mapped g same [] x new = tt
new_mapped g same (o ∷ os) x new = (rw (same o) new.0, new_mapped g same os x new.1)

new_if : (b : Bool) (o : Object) (os : List Object) (x : ℕ) → o.label < x → IsNew os x →
    IsNew (if b then o ∷ os else os) x
new_if true o os x lt rest = (lt, rest)
new_if false o os x lt rest = rest

pub new_filtered : (q : Object → Bool) (os : List Object) (x : ℕ) → IsNew os x → IsNew (filter q os) x
new_filtered q [] x new = tt
new_filtered q (o ∷ os) x new = new_if (q o) o (filter q os) x new.0 (new_filtered q os x new.1)

pub new_behind : (os : List Object) (o : Object) (x : ℕ) → IsNew os x → x ≤ o.label → IsNew (os ++ o ∷ []) (o.label + 1)
new_behind [] o x new le = (omega arith, tt)
new_behind (v ∷ vs) o x new le = (omega (arith, new.0), new_behind vs o x new.1 le)

-- slots that are the same hold the same

held_same : (s t : Slab Object) (ps : List Place) → t.slots ≡ s.slots → Held s ps → Held t ps
held_same s t [] same held = tt
held_same s t (p ∷ ps) same held = (rw same held.0, held_same s t ps same held.1)

pub stands_same : (s t : Slab Object) (ps : List Place) → t.slots ≡ s.slots → Stands s ps → Stands t ps
stands_same s t ps same stands =
    record {
      rise = stands.rise;
      held = held_same s t ps same stands.held;
      counted = ap (count_by is_some) same
          ∙ stands.counted;
    }

-- the object is at a key that was vacant

below_of : (p : Place) (slot : Option Object) (os : List Object) (x : ℕ) → IsSomeAnd slot (IsAt p) →
    IsNew (put slot os) x → (p.label < x) × IsNew os x
below_of p None os x is new = absurd is
below_of p (Some o) os x is new = (rw (← is.same_label) new.0, new.1)

module _ (s t : Slab Object) (p : Place) (o : Object) (at : IsAt p o) (vacant : get s p.key ≡ None)
    (updates : Updates s t p.key (Some o)) where
  other_slot : (q : Place) (slot : Option Object) → get s q.key ≡ slot → IsSomeAnd slot (IsAt q) →
      get t q.key ≡ get s q.key
  other_slot q None is held = absurd held
  other_slot q (Some v) is held = updates.others q.key (λ same. let there = rw same at is in absurd (cc))

  put-append : (slot : Option Object) (os rest : List Object) → put slot (os ++ rest) ≡ put slot os ++ rest
  put-append None os rest = refl
  put-append (Some v) os rest = refl

  pub named_made : (ps : List Place) → Held s ps → named t (ps ++ p ∷ []) ≡ named s ps ++ o ∷ []
  named_made [] held = rw updates.changed refl
  named_made (q ∷ qs) held =
      rw (other_slot q (get s q.key) refl held.0, named_made qs held.1) (put-append (get s q.key) (named s qs) (o ∷ []))

  held_made : (ps : List Place) → Held s ps → Held t (ps ++ p ∷ [])
  held_made [] held = (rw updates.changed at, tt)
  held_made (q ∷ qs) held = (rw (other_slot q (get s q.key) refl held.0) held.0, held_made qs held.1)

  rise_made : (ps : List Place) (n : ℕ) → RisesBy label_of n ps → n ≤ p.label → Held s ps → IsNew (named s ps) p.label →
      RisesBy label_of n (ps ++ p ∷ [])
  rise_made [] n rise le held new = (le, tt)
  rise_made (q ∷ qs) n rise le held new =
      let below = below_of q (get s q.key) (named s qs) p.label held.0 new in
      (rise.0, rise_made qs (q.label + 1) rise.1 (omega (arith, below.0)) held.1 below.1)

  pub stands_made : (ps : List Place) → Stands s ps → IsNew (named s ps) p.label → slab_len t ≡ slab_len s + 1 →
      Stands t (ps ++ p ∷ [])
  stands_made ps stands new len =
      record {
        rise = rise_made ps 0 stands.rise (omega arith) stands.held new;
        held = held_made ps stands.held;
        counted = omega (arith, length-append ps (p ∷ []), stands.counted);
      }
