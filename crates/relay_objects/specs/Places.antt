-- Places by rising label, and the objects that they name.
use Rattle.std.specs.Prelude.{◌≡◌, ◌≢◌, ℕ, ◌<◌, List, [], ◌∷◌, length, slice_index_or, ◌==◌, if◌then◌else◌, Option, Some, None, IsSomeAnd}
use Rattle.slab.specs.Slab.{Slab, get, slab_len}
use Rattle.relay_objects.specs.declared.place.Place.{Place}
use Rattle.relay_objects.specs.declared.object.Object.{Object}
use Rattle.relay_objects.specs.Rising.{RisesBy}

-- what a contract sees of a shelf: the objects by rising label, and how many more it takes in with
-- no memory
pub record Shelved : Type 0 where
  pub items : List Object
  pub room : ℕ

abbrev pub no_place : Place
no_place = record { label = 0; peer = 0; key = 0 }

abbrev pub place_at : List Place → ℕ → Place
place_at ps i = slice_index_or ps i no_place

abbrev pub label_at : List Place → ℕ → ℕ
label_at ps i = let place = place_at ps i in place.label

abbrev pub peer_at : List Place → ℕ → ℕ
peer_at ps i = let place = place_at ps i in place.peer

abbrev pub key_at : List Place → ℕ → ℕ
key_at ps i = let place = place_at ps i in place.key

-- the labels of the places rise
abbrev pub LabelsRise : List Place → Type 0
LabelsRise ps = RisesBy (λ (p : Place). p.label) 0 ps

-- the place i is the label's
pub record IsPlaceOf (ps : List Place) (x i : ℕ) : Type 0 where
  pub within : i < length ps
  pub has_label : label_at ps i ≡ x

-- no place is
abbrev pub HasNoPlace : List Place → ℕ → Type 0
HasNoPlace ps x = (i : ℕ) → i < length ps → label_at ps i ≢ x

-- the key of the first place that is the label's
abbrev pub key_in : List Place → ℕ → Option ℕ
key_in [] x = None
key_in (p ∷ ps) x = (if p.label == x then Some p.key else key_in ps x)

-- one object more in front, if there is one
abbrev pub put : Option Object → List Object → List Object
put None os = os
put (Some o) os = o ∷ os

-- the objects that the places name, in their order
abbrev pub named : Slab Object → List Place → List Object
named s [] = []
named s (p ∷ ps) = put (get s p.key) (named s ps)

-- the object has the label and the peer that its place says
pub record IsAt (p : Place) (o : Object) : Type 0 where
  pub same_label : o.label ≡ p.label
  pub same_peer : o.peer ≡ p.peer

-- each place names an object
abbrev pub Held : Slab Object → List Place → Type 0
Held s [] = Unit {0}
Held s (p ∷ ps) = IsSomeAnd (get s p.key) (IsAt p) × Held s ps

-- the places are in order and each names an object, and the slab has no other
pub record Stands (s : Slab Object) (ps : List Place) : Type 0 where
  pub rise : LabelsRise ps
  pub held : Held s ps
  pub counted : slab_len s ≡ length ps

-- the keys of the other peers' places give what they gave
abbrev pub KeepsOthers : (old new : Slab Object) → List Place → (peer : ℕ) → Type 0
KeepsOthers old new ps peer =
    (i : ℕ) → i < length ps → peer_at ps i ≢ peer → get new (key_at ps i) ≡ get old (key_at ps i)
