use Rattle.std.proofs.Common.{◌≡◌, ℕ, List, ◌∷◌, Bool, true, false, not, ◌&&◌, Option, Some, None, is_some, refl, sym, ◌∙◌, ap, subst}
use Rattle.std.specs.Prelude.{◌==◌, IfSome}
use Rattle.std.specs.FinMap as map
use Rattle.std.proofs.lemmas.Bool.{ne_eqb}
use Rattle.wl_proto.specs.declared.interface.Interface.{Interface}
use Rattle.im_objects.specs.Calls.Call.{Drop}
use Rattle.im_objects.specs.Objects.{Objects, AreNear, Stands, under_of, ids_of}
use Rattle.im_objects.specs.contracts.table.Table.{the_view}
use Rattle.im_objects.proofs.TreeIsMap.{get_tree, removed}
use Rattle.im_objects.proofs.NearIds.{near_removed, near_same}
use Rattle.im_objects.proofs.MapsAreInverse.{whole_removed, whole_same}
use Rattle.im_objects.proofs.ObjectsAfterCalls.{kept_stands, dropped_stands, same_objects, stands_same}
use Rattle.im_objects.proofs.table.Table.drop_id.Goals as goal

-- nothing is under the id
no_effect : (display : Bool) {o : Option (Interface × ℕ)} → o ≡ None → (not display && is_some o) ≡ false
no_effect true e = refl
no_effect false e = ap is_some e

-- something is, and it isn't the display's
effect : (display : Bool) {o : Option (Interface × ℕ)} (object : Interface × ℕ) → display ≡ false → o ≡ Some object →
    true ≡ (not display && is_some o)
effect display {o} object other e = sym (ap (λ b. not b && is_some o) other ∙ ap is_some e)

nothing : (c : goal.In_default) → map.get c.args.self.now.under c.args.id ≡ None
nothing c =
    sym (ap (λ (o : Objects). map.get o.under c.args.id) c.self.view_is)
    ∙ get_tree c.self.inside.objects c.args.id ∙ sym c.remove.ensures.value ∙ c.in_default.is

pub returns-in_default-clause-answer : goal.returns-in_default-clause-answer
returns-in_default-clause-answer c = sym (no_effect (c.args.id == 1) (nothing c))

pub returns-in_default-clause-effect : goal.returns-in_default-clause-effect
returns-in_default-clause-effect c calls s = sym (no_effect (c.args.id == 1) (sym (s.under c.args.id) ∙ nothing c))

pub returns-in_default-clause-history : goal.returns-in_default-clause-history
returns-in_default-clause-history c calls s =
    let Standing : Objects → Type 0 = λ o. Stands calls o in
    stands_same (Drop c.args.id ∷ calls) _ _ _ _
    (ap (λ (es : List (ℕ × (Interface × ℕ))). under_of es) c.in_default.ensures.unchanged) refl
    (kept_stands calls (the_view c.self.inside) c.args.id (subst Standing (sym c.self.view_is) s)
    (no_effect (c.args.id == 1) (sym (s.under c.args.id) ∙ nothing c)))

here : (c : goal.After-note) →
    map.get (the_view c.self.inside).under c.args.id ≡ Some (c.in-Some.field-0-0, c.in-Some.label)
here c = get_tree c.self.inside.objects c.args.id ∙ sym c.remove.ensures.value ∙ c.in-Some.is

here_now : (c : goal.After-note) → map.get c.args.self.now.under c.args.id ≡ Some (c.in-Some.field-0-0, c.in-Some.label)
here_now c = sym (ap (λ (o : Objects). map.get o.under c.args.id) c.self.view_is) ∙ here c

other : (c : goal.After-note) → (c.args.id == 1) ≡ false
other c = ne_eqb c.args.id 1 c.if-id-eq-DISPLAY_ID.false

under_is : (c : goal.After-note) →
    under_of c.remove.new.self.entries ≡ map.remove (the_view c.self.inside).under c.args.id
under_is c = removed c.self.inside.objects c.remove.new.self c.args.id c.remove.ensures.updates

ids_are : (c : goal.After-note) →
    ids_of c.remove-2.new.self.entries ≡ map.remove (the_view c.self.inside).ids c.in-Some.label
ids_are c = removed c.self.inside.ids c.remove-2.new.self c.in-Some.label c.remove-2.ensures.updates

pub invariant_of-self-2 : goal.invariant_of-self-2
invariant_of-self-2 c = (
  whole_same _ _ _ _ (under_is c) (ids_are c)
      (whole_removed (the_view c.self.inside).under (the_view c.self.inside).ids c.args.id
      (c.in-Some.field-0-0, c.in-Some.label) c.self.invariant.0 (here c)),
  subst (λ near. AreNear near (under_of c.remove.new.self.entries)) (sym c.note.ensures)
      (near_same _ _ _ (under_is c)
      (near_removed c.self.inside.near.items (the_view c.self.inside).under c.args.id c.self.invariant.1)),
)

pub returns-clause-answer : goal.returns-clause-answer
returns-clause-answer c = effect (c.args.id == 1) (c.in-Some.field-0-0, c.in-Some.label) (other c) (here_now c)

pub returns-clause-effect : goal.returns-clause-effect
returns-clause-effect c calls s =
    effect (c.args.id == 1) (c.in-Some.field-0-0, c.in-Some.label) (other c) (sym (s.under c.args.id) ∙ here_now c)

pub returns-clause-dropped : goal.returns-clause-dropped
returns-clause-dropped c _ =
    let Left : Objects → (Interface × ℕ) → Type 0 = λ o g.
    ◌≡◌ {A = Objects} (record { under = under_of c.remove.new.self.entries; ids = ids_of c.remove-2.new.self.entries })
    (record { under = map.remove o.under c.args.id; ids = map.remove o.ids g.1 }) in
    let IsLeft : Objects → Type 0 = λ o. IfSome (map.get o.under c.args.id) (λ g. Left o g) in
    let Found : Option (Interface × ℕ) → Type 0 = λ o. IfSome o (λ g. Left (the_view c.self.inside) g) in
    subst IsLeft c.self.view_is (subst Found (sym (here c)) (same_objects _ _ _ _ (under_is c) (ids_are c)))

pub returns-clause-history : goal.returns-clause-history
returns-clause-history c calls s =
    let Standing : Objects → Type 0 = λ o. Stands calls o in
    stands_same (Drop c.args.id ∷ calls) _ _ _ _ (under_is c) (ids_are c)
    (dropped_stands calls (the_view c.self.inside) c.args.id (c.in-Some.field-0-0, c.in-Some.label)
    (subst Standing (sym c.self.view_is) s) (other c) (here c))
