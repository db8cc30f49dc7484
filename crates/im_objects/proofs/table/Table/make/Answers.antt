use Rattle.std.proofs.Common.{◌≡◌, ◌≤◌, ◌∷◌, None, sym, ◌∙◌, ap, subst}
use Rattle.std.specs.FinMap as map
use Rattle.im_objects.specs.Calls.Call.{Make}
use Rattle.im_objects.specs.Objects.{Objects, AreNear, IsWhole, Stands, refusal_of, under_of, ids_of}
use Rattle.im_objects.specs.contracts.table.Table.{the_view}
use Rattle.im_objects.proofs.MakeRefuses.{none_refused}
use Rattle.im_objects.proofs.MapsAreInverse.{whole_inserted, whole_same}
use Rattle.im_objects.proofs.NearIds.{near_inserted, near_same}
use Rattle.im_objects.proofs.ObjectsAfterCalls.{made_stands, stands_same}
use Rattle.im_objects.proofs.table.Table.make.Goals as goal

whole : (c : goal.After-note) → IsWhole (under_of c.put.new.objects.entries) (ids_of c.put.new.ids.entries)
whole c =
    let none : refusal_of (the_view c.self.inside) c.args.id ≡ None =
    ap (λ (o : Objects). refusal_of o c.args.id) c.self.view_is ∙ sym c.refusal_of.ensures ∙ c.in_default.is in
    let room : (map.get (the_view c.self.inside).under c.args.id ≡ None)
    × (map.len (the_view c.self.inside).under ≤ 256) =
    none_refused (the_view c.self.inside) c.args.id none in
    let unused : map.get (the_view c.self.inside).ids c.args.label ≡ None =
    ap (λ (o : Objects). map.get o.ids c.args.label) c.self.view_is ∙ c.requires.unused in
    whole_same _ _ _ _ c.in-Ok.ensures.under c.in-Ok.ensures.labelled
    (whole_inserted (the_view c.self.inside).under
    (the_view c.self.inside).ids c.args.id c.args.interface c.args.label c.self.invariant.0 room.1 room.0 unused)

pub invariant_of-self-2 : goal.invariant_of-self-2
invariant_of-self-2 c = (
  whole c,
  subst (λ near. AreNear near (under_of c.put.new.objects.entries)) (sym c.note.ensures)
      (near_same _ _ _ c.in-Ok.ensures.under
      (near_inserted c.self.inside.near.items (the_view c.self.inside).under c.args.id
      (c.args.interface, c.args.label) c.self.invariant.1)),
)

pub returns-clause-few : goal.returns-clause-few
returns-clause-few c = (whole c).few

pub returns-clause-history : goal.returns-clause-history
returns-clause-history c calls s =
    let Standing : Objects → Type 0 = λ o. Stands calls o in
    stands_same (Make c.args.id c.args.interface c.args.label ∷ calls) _ _ _ _ c.in-Ok.ensures.under
    c.in-Ok.ensures.labelled
    (made_stands calls (the_view c.self.inside) c.args.id c.args.interface c.args.label
    (subst Standing (sym c.self.view_is) s))
