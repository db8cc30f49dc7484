-- The listed fields of a peer are told as all its fields.
use Rattle.std.proofs.Common.{◌≡◌, ℕ, List, [], ◌∷◌, map, filter, Bool, true, false, ◌&&◌, if◌then◌else◌, eqb, Some, None, refl, ap, arith}
use Rattle.std.proofs.lemmas.Bool.Decides.{nat_tests}
use Rattle.relay_model.specs.declared.said.Said.{Said}
use Rattle.relay_model.specs.declared.said.Told.{Told}
use Rattle.relay_model.specs.Told.{to}
use Rattle.relay_objects.specs.declared.object.Object.{Object}
use Rattle.relay_objects.specs.Objects.{is_field_kind}
use Rattle.relay_objects.specs.Listed.{live_field, is_field_of, fields_of}
use Rattle.relay_objects.specs.Saying.{said_to, told_each}

either_way : (p q : ℕ) → eqb q p ≡ eqb p q
either_way p q = grind (arith, nat_tests)

told_one : (say : Said) (p : ℕ) (o : Object) (os : List Object) (b : Bool) →
    told_each say (fields_of p os) ≡ said_to say (Some p) os →
    told_each say (map live_field (if b then o ∷ filter (is_field_of p) os else filter (is_field_of p) os))
    ≡ (if b then to o.label say ∷ said_to say (Some p) os else said_to say (Some p) os)
told_one say p o os true rest = ap (λ ts. to o.label say ∷ ts) rest
told_one say p o os false rest = rest

pub told_are : (say : Said) (p : ℕ) (os : List Object) → told_each say (fields_of p os) ≡ said_to say (Some p) os
told_are say p [] = refl
told_are say p (o ∷ os) =
    rw (either_way p o.peer) (told_one say p o os (is_field_kind o.kind && eqb p o.peer) (told_are say p os))

none_if : (b : Bool) (t : Told) → (ts : List Told) → [] ≡ ts → [] ≡ (if b && false then t ∷ ts else ts)
none_if true t ts rest = rest
none_if false t ts rest = rest

pub none_told : (say : Said) (os : List Object) → [] ≡ said_to say None os
none_told say [] = refl
none_told say (o ∷ os) = none_if (is_field_kind o.kind) (to o.label say) (said_to say None os) (none_told say os)
