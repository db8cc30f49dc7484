-- What a search among the places finds.
use Rattle.std.proofs.Common.{◌≡◌, ℕ, zero, suc, ◌+◌, List, [], ◌∷◌, get_or, Some, None, refl, arith}
use Rattle.std.proofs.lemmas.Bool.Decides.{nat_tests}
use Rattle.relay_objects.specs.declared.place.Place.{Place}
use Rattle.relay_objects.specs.Rising.{RisesBy}
use Rattle.relay_objects.specs.Places.{no_place, IsPlaceOf, HasNoPlace, key_in}
use Rattle.relay_objects.proofs.RisingNumbers.{number_from}

abbrev pub label_of : Place → ℕ
label_of p = p.label

-- the key at the label's place is the one that is found
pub key_at_place : (ps : List Place) (n x i : ℕ) → RisesBy label_of n ps → IsPlaceOf ps x i →
    Some (get_or ps i no_place).key ≡ key_in ps x
key_at_place [] n x i r at = absurd (omega (arith, at.within))
key_at_place (p ∷ ps) n x zero r at = grind (arith, nat_tests, at.has_label)
key_at_place (p ∷ ps) n x (suc i) r at =
    let later : IsPlaceOf ps x i = record { within = omega (arith, at.within); has_label = at.has_label } in
    let above = number_from label_of ps (p.label + 1) i no_place r.1 later.within in
    grind (arith, nat_tests, key_at_place ps (p.label + 1) x i r.1 later, above, later.has_label)

pub key_absent : (ps : List Place) (x : ℕ) → HasNoPlace ps x → None ≡ key_in ps x
key_absent [] x none = refl
key_absent (p ∷ ps) x none =
    grind (arith, nat_tests, none 0 (omega arith), key_absent ps x (λ i lt. none (suc i) (omega arith)))
