-- The objects that the places name: found by label, and changed one at a time.
use Rattle.std.proofs.Common.{◌≡◌, ℕ, zero, suc, ◌+◌, ◌<◌, ◌≤◌, List, [], ◌∷◌, length, get_or, map, option_map, cond, is_some, Bool, true, false, if◌then◌else◌, eqb, Option, Some, None, IsSome, IsSomeAnd, refl, sym, ap, ◌∙◌, arith, inl, inr}
use Rattle.std.proofs.lemmas.Bool.{cases_eq}
use Rattle.std.proofs.lemmas.Bool.Decides.{nat_tests}
use Rattle.std.proofs.lemmas.List.{get_or_default}
use Rattle.std.proofs.lemmas.List.Sums.{sum_by-set}
use Rattle.slab.specs.Slab.{Slab, get, slab_len, Updates, with_value}
use Rattle.slab.proofs.SlabLemmas.{Updates-with_value, ContainsKey-within}
use Rattle.relay_objects.specs.declared.place.Place.{Place}
use Rattle.relay_objects.specs.declared.change.Change.{Change}
use Rattle.relay_objects.specs.declared.object.Object.{Object}
use Rattle.relay_objects.specs.Changes.{changed_by, changed_at}
use Rattle.relay_objects.specs.Objects.{find}
use Rattle.relay_objects.specs.Rising.{RisesBy}
use Rattle.relay_objects.specs.Places.{no_place, key_at, key_in, put, named, IsAt, Held, Stands}
use Rattle.relay_objects.proofs.SearchedPlaces.{label_of}

-- finding

abbrev pub at_key : Slab Object → Option ℕ → Option Object
at_key s None = None
at_key s (Some k) = get s k

find-put : (p : Place) (slot : Option Object) (os : List Object) (x : ℕ) → IsSomeAnd slot (IsAt p) →
    find (put slot os) x ≡ (if eqb p.label x then slot else find os x)
find-put p None os x is = absurd is
find-put p (Some o) os x is = rw is.same_label refl

at_key-if : (s : Slab Object) (b : Bool) (k : ℕ) (rest : Option ℕ) →
    at_key s (if b then Some k else rest) ≡ (if b then get s k else at_key s rest)
at_key-if s true k rest = refl
at_key-if s false k rest = refl

-- a look-up among the objects is one among the places
pub find_named : (s : Slab Object) (ps : List Place) (x : ℕ) → Held s ps → find (named s ps) x ≡ at_key s (key_in ps x)
find_named s [] x held = refl
find_named s (p ∷ ps) x held =
    find-put p (get s p.key) (named s ps) x held.0
    ∙ ap (λ rest. if eqb p.label x then get s p.key else rest) (find_named s ps x held.1)
    ∙ sym (at_key-if s (eqb p.label x) p.key (key_in ps x))

put_rises : (p : Place) (slot : Option Object) (n : ℕ) (os : List Object) → IsSomeAnd slot (IsAt p) → n ≤ p.label →
    RisesBy (λ (o : Object). o.label) (p.label + 1) os → RisesBy (λ (o : Object). o.label) n (put slot os)
put_rises p None n os is le rest = absurd is
put_rises p (Some o) n os is le rest = rw is.same_label (le, rest)

-- their labels rise
pub named_rise : (s : Slab Object) (ps : List Place) (n : ℕ) → RisesBy label_of n ps → Held s ps →
    RisesBy (λ (o : Object). o.label) n (named s ps)
named_rise s [] n rise held = tt
named_rise s (p ∷ ps) n rise held =
    put_rises p (get s p.key) n (named s ps) held.0 rise.0 (named_rise s ps (p.label + 1) rise.1 held.1)

-- at a place

pub held_at : (s : Slab Object) (ps : List Place) (i : ℕ) → Held s ps → i < length ps →
    IsSomeAnd (get s (key_at ps i)) (IsAt (get_or ps i no_place))
held_at s [] i held lt = absurd (omega arith)
held_at s (p ∷ ps) zero held lt = held.0
held_at s (p ∷ ps) (suc i) held lt = held_at s ps i held.1 (omega arith)

some_of : (P : Object → Type 0) (slot : Option Object) → IsSomeAnd slot P → IsSome slot
some_of P None h = absurd h
some_of P (Some o) h = refl

pub key_some : (s : Slab Object) (ps : List Place) (i : ℕ) → Held s ps → i < length ps → IsSome (get s (key_at ps i))
key_some s ps i held lt = some_of _ _ (held_at s ps i held lt)

pub slot_at : (s : Slab Object) (ps : List Place) (i : ℕ) (p : Place) → Held s ps → i < length ps → p ≡ get_or ps i p →
    IsSome (get s p.key)
slot_at s ps i p held lt is =
    let here : p ≡ get_or ps i no_place = is ∙ get_or_default ps i p no_place lt in
    rw here (some_of _ _ (held_at s ps i held lt))

pub label_there : (p : Place) (o : Object) (slot : Option Object) → slot ≡ Some o → IsSomeAnd slot (IsAt p) →
    o.label ≡ p.label
label_there p o None is held = absurd held
label_there p o (Some v) is held = grind (arith, held.same_label)

-- the key of a label that is found names an object with that label
pub found_there : (s : Slab Object) (ps : List Place) (x key : ℕ) → Held s ps → key_in ps x ≡ Some key →
    (o : Object) × (get s key ≡ Some o) × (o.label ≡ x)
found_there s [] x key held found = absurd (cc)
found_there s (p ∷ ps) x key held found = elim (cases_eq p.label x) [
  | inl same ↦
      let key_is : p.key ≡ key = grind (arith, nat_tests) in
      rw key_is at (here (get s p.key) refl held.0 same)
  | inr differs ↦ found_there s ps x key held.1 (grind (arith, nat_tests))
]
  where
    here : (slot : Option Object) → get s p.key ≡ slot → IsSomeAnd slot (IsAt p) → p.label ≡ x →
        (o : Object) × (get s p.key ≡ Some o) × (o.label ≡ x)
    here None is held same = absurd held
    here (Some v) is held same = (v, is, held.same_label ∙ same)

-- changing one

either : (P : Object → Type 0) (b : Bool) (u v : Object) → P u → P v → P (if b then u else v)
either P true u v p q = p
either P false u v p q = q

module _ (x : ℕ) (c : Change) (s t : Slab Object) where
  -- each place names what the change makes of what it named
  abbrev pub Changed : List Place → Type 0
  Changed [] = Unit {0}
  Changed (p ∷ ps) = (get t p.key ≡ option_map (changed_at x c) (get s p.key)) × Changed ps

  put-map : (slot : Option Object) (os : List Object) →
      put (option_map (changed_at x c) slot) (map (changed_at x c) os) ≡ map (changed_at x c) (put slot os)
  put-map None os = refl
  put-map (Some o) os = refl

  pub named_changed : (ps : List Place) → Changed ps → named t ps ≡ map (changed_at x c) (named s ps)
  named_changed [] m = refl
  named_changed (p ∷ ps) m = rw (m.0, named_changed ps m.1) (put-map (get s p.key) (named s ps))

  still_at : (p : Place) (slot : Option Object) → IsSomeAnd slot (IsAt p) →
      IsSomeAnd (option_map (changed_at x c) slot) (IsAt p)
  still_at p None is = absurd is
  still_at p (Some o) is =
      either (IsAt p) (eqb o.label x) (changed_by c o) o
      (record { same_label = is.same_label; same_peer = is.same_peer }) is

  pub held_changed : (ps : List Place) → Changed ps → Held s ps → Held t ps
  held_changed [] m held = tt
  held_changed (p ∷ ps) m held = (rw m.0 (still_at p (get s p.key) held.0), held_changed ps m.1 held.1)

-- no other place than one with the key is the label's
abbrev pub OnlyAt : List Place → ℕ → ℕ → Type 0
OnlyAt [] x key = Unit {0}
OnlyAt (p ∷ ps) x key = (p.label ≡ x → p.key ≡ key) × OnlyAt ps x key

only_past : (ps : List Place) (n x key : ℕ) → RisesBy label_of n ps → x < n → OnlyAt ps x key
only_past [] n x key r lt = tt
only_past (p ∷ ps) n x key r lt =
    (λ same. absurd (omega (arith, r.0)), only_past ps (p.label + 1) x key r.1 (omega (arith, r.0)))

only_at_key : (ps : List Place) (n x key : ℕ) → RisesBy label_of n ps → key_in ps x ≡ Some key → OnlyAt ps x key
only_at_key [] n x key r found = absurd (cc)
only_at_key (p ∷ ps) n x key r found = elim (cases_eq p.label x) [
  | inl same ↦ (λ h. grind (arith, nat_tests), only_past ps (p.label + 1) x key r.1 (omega arith))
  | inr differs ↦ (λ h. absurd (differs h), only_at_key ps (p.label + 1) x key r.1 (grind (arith, nat_tests)))
]

-- where no place is the label's, nothing changes
unchanged : (x : ℕ) (c : Change) (s : Slab Object) (ps : List Place) → Held s ps → key_in ps x ≡ None →
    Changed x c s s ps
unchanged x c s [] held none = tt
unchanged x c s (p ∷ ps) held none = (slot (get s p.key) held.0, unchanged x c s ps held.1 (grind (arith, nat_tests)))
  where
    slot : (o : Option Object) → IsSomeAnd o (IsAt p) → o ≡ option_map (changed_at x c) o
    slot None is = absurd is
    slot (Some v) is =
        let test : eqb v.label x ≡ false = grind (arith, nat_tests, is.same_label) in
        rw test refl

module _ (x : ℕ) (c : Change) (s : Slab Object) (ps : List Place) (stands : Stands s ps) where
  module _ (key : ℕ) (found : key_in ps x ≡ Some key) (o : Object) (is : get s key ≡ Some o) where
    o_label : o.label ≡ x
    o_label = let there = found_there s ps x key stands.held found in grind (arith, there.1, there.2)

    abbrev t : Slab Object
    t = with_value s key (changed_by c o)

    updates : Updates s t key (Some (changed_by c o))
    updates = Updates-with_value s key (changed_by c o) (rw is refl)

    changed_slot : (p : Place) (slot : Option Object) → get s p.key ≡ slot → IsSomeAnd slot (IsAt p) →
        (p.label ≡ x → p.key ≡ key) → get t p.key ≡ option_map (changed_at x c) slot
    changed_slot p None at held only = absurd held
    changed_slot p (Some v) at held only = elim (cases_eq p.key key) [
      | inl same ↦
          let one : v ≡ o = grind (arith) in
          let test : eqb v.label x ≡ true = grind (arith, nat_tests, o_label) in
          rw (same, test) (updates.changed ∙ ap (λ w. Some (changed_by c w)) (sym one))
      | inr differs ↦
          let test : eqb v.label x ≡ false = grind (arith, nat_tests, held.same_label, only) in
          rw test (updates.others p.key differs ∙ at)
    ]

    changed_all : (qs : List Place) → Held s qs → OnlyAt qs x key → Changed x c s t qs
    changed_all [] held only = tt
    changed_all (p ∷ qs) held only = (changed_slot p (get s p.key) refl held.0 only.0, changed_all qs held.1 only.1)

    changed : Changed x c s t ps
    changed = changed_all ps stands.held (only_at_key ps 0 x key stands.rise found)

    same_count : slab_len t ≡ slab_len s
    same_count =
        let within = ContainsKey-within s key (rw is refl) in
        let both = sum_by-set (λ w. cond (is_some w) 1 0) s.slots key (Some (changed_by c o)) None within in
        omega (arith, rw is at both)

    -- the found object is changed where it stands
    pub items_changed : named (with_value s key (changed_by c o)) ps ≡ map (changed_at x c) (named s ps)
    items_changed = named_changed x c s t ps changed

    pub stands_changed : Stands (with_value s key (changed_by c o)) ps
    stands_changed =
        record {
          rise = stands.rise;
          counted = same_count ∙ stands.counted;
          held = held_changed x c s t ps changed stands.held;
        }

  pub items_unchanged : key_in ps x ≡ None → named s ps ≡ map (changed_at x c) (named s ps)
  items_unchanged none = named_changed x c s s ps (unchanged x c s ps stands.held none)
