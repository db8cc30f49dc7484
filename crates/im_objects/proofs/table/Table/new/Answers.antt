use Rattle.std.proofs.Common.{◌≡◌, ℕ, List, [], ◌∷◌, ◌∙◌, sym, subst, ap, arith}
use Rattle.std.specs.Ordering.{nat_cmp}
use Rattle.std.specs.FinMap as map
use Rattle.wl_proto.specs.declared.interface.Interface.{Interface}
use Rattle.wl_proto.specs.declared.interface.Interface.TheVariants.{Display}
use Rattle.im_objects.specs.Calls.Call.{Make}
use Rattle.im_objects.specs.Objects.{AreNear, under_of, ids_of}
use Rattle.im_objects.proofs.MapsAreInverse.{whole_empty, whole_inserted, whole_same}
use Rattle.im_objects.proofs.NearIds.{near_inserted, near_same}
use Rattle.im_objects.proofs.ObjectsAfterCalls.{none_stand, made_stands, stands_same}
use Rattle.im_objects.proofs.table.Table.new.Goals as goal

pub put-requires : goal.put-requires
put-requires c = record {
  free = ap (λ (es : List (ℕ × (Interface × ℕ))). map.get (under_of es) 1) c.new-objects.ensures.empty
      ∙ map.get-empty nat_cmp 1;
}

under_is : (c : goal.After-note) → under_of c.put.new.objects.entries ≡ map.insert map.empty 1 (Display, c.args.peer)
under_is c =
    c.in_ok-put.ensures.under
    ∙ ap (λ (es : List (ℕ × (Interface × ℕ))). map.insert (under_of es) 1 (Display, c.args.peer))
    c.new-objects.ensures.empty

ids_are : (c : goal.After-note) → ids_of c.put.new.ids.entries ≡ map.insert map.empty c.args.peer 1
ids_are c =
    c.in_ok-put.ensures.labelled
    ∙ ap (λ (es : List (ℕ × ℕ)). map.insert (ids_of es) c.args.peer 1) c.new-ids.ensures.empty

pub invariant_of-result : goal.invariant_of-result
invariant_of-result c = (
  whole_same _ _ _ _ (under_is c) (ids_are c)
      (whole_inserted map.empty map.empty 1 Display c.args.peer whole_empty
      (omega (arith, map.len-empty nat_cmp (Interface × ℕ)))
      (map.get-empty nat_cmp 1)
      (map.get-empty nat_cmp c.args.peer)),
  subst (λ near. AreNear near (under_of c.put.new.objects.entries)) (sym c.note.ensures)
      (near_same _ _ _ (under_is c)
      (near_inserted c.in_ok-near.near.items map.empty 1 (Display, c.args.peer) c.in_ok-near.ensures)),
)

pub returns-clause-history : goal.returns-clause-history
returns-clause-history c =
    stands_same (Make 1 Display c.args.peer ∷ []) _ _ _ _ (under_is c) (ids_are c)
    (made_stands [] (record { under = map.empty; ids = map.empty }) 1 Display c.args.peer none_stand)
