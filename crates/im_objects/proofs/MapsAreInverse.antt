-- an object more and an object less leave the two maps each other's inverse
use Rattle.std.proofs.Common.{◌≡◌, ℕ, ◌-◌, ◌≤◌, Bool, true, false, cond, Option, Some, None, is_some, refl, sym, subst, ◌∙◌, ap, arith}
use Rattle.std.specs.Prelude.{◌==◌, ◌↔◌}
use Rattle.std.specs.Ordering.{nat_cmp}
use Rattle.std.specs.Cmp.{nat_cmp_total}
use Rattle.std.specs.FinMap as map
use Rattle.std.proofs.lemmas.Bool.{eqb-true, eq-eqb, cond-false, false≢true}
use Rattle.wl_proto.specs.declared.interface.Interface.{Interface}
use Rattle.im_objects.specs.Calls.{has_label}
use Rattle.im_objects.specs.Objects.{is_id, IsWhole, IsLabelled}
use Rattle.im_objects.proofs.TreeIsMap.{get_inserted, get_removed}

id_from : (id : ℕ) (o : Option ℕ) → is_id id o ≡ true → o ≡ Some id
id_from id None h = absurd (false≢true h)
id_from id (Some other) h = ap Some (sym (eqb-true id other h))

id_to : (id : ℕ) (o : Option ℕ) → o ≡ Some id → is_id id o ≡ true
id_to id o e = ap (is_id id) e ∙ eq-eqb id id refl

labelled_from : (label : ℕ) (o : Option (Interface × ℕ)) → has_label label o ≡ true → IsLabelled label o
labelled_from label None h = absurd (false≢true h)
labelled_from label (Some object) h = sym (eqb-true label object.1 h)

labelled_to : (label : ℕ) (o : Option (Interface × ℕ)) → IsLabelled label o → has_label label o ≡ true
labelled_to label None h = absurd h
labelled_to label (Some object) h = eq-eqb label object.1 (sym h)

-- a label has an id exactly where what is under the id has the label
pub inverse_of : (under : map.FinMap nat_cmp (Interface × ℕ)) (ids : map.FinMap nat_cmp ℕ) (label id : ℕ) →
    IsWhole under ids
    → (map.get ids label ≡ Some id) ↔ IsLabelled label (map.get under id)
inverse_of under ids label id whole = (
  λ e. labelled_from label (map.get under id) (sym (whole.inverse label id) ∙ id_to id (map.get ids label) e),
  λ h. id_from id (map.get ids label) (whole.inverse label id ∙ labelled_to label (map.get under id) h),
)

pub whole_empty : IsWhole map.empty map.empty
whole_empty = record {
  few = omega (arith, map.len-empty nat_cmp (Interface × ℕ));
  inverse = λ label id. ap (is_id id) (map.get-empty nat_cmp label)
      ∙ sym (ap (has_label label) (map.get-empty nat_cmp id));
}

pub few_inserted : (under : map.FinMap nat_cmp (Interface × ℕ)) (id : ℕ) (object : Interface × ℕ) →
    map.get under id ≡ None → map.len under ≤ 256
    → map.len (map.insert under id object) ≤ 257
few_inserted under id object free few =
    omega (
      arith,
      map.len-insert nat_cmp_total under id object
          ∙ cond-false (is_some (map.get under id)) _ _ (ap is_some free),
    )

pub whole_inserted : (under : map.FinMap nat_cmp (Interface × ℕ)) (ids : map.FinMap nat_cmp ℕ) (id : ℕ)
    (interface : Interface) (label : ℕ) → IsWhole under ids
    → map.len under ≤ 256 → map.get under id ≡ None → map.get ids label ≡ None
    → IsWhole (map.insert under id (interface, label)) (map.insert ids label id)
whole_inserted under ids id interface label whole few free unused =
    record {
      few = few_inserted under id (interface, label) free few;
      inverse = λ l q.
          ap (is_id q) (get_inserted ids label id l)
          ∙ at l q (l == label) refl (q == id) refl
          ∙ sym (ap (has_label l) (get_inserted under id (interface, label) q));
    }
  where
    at : (l q : ℕ) (a : Bool) → (l == label) ≡ a → (b : Bool) → (q == id) ≡ b
        → is_id q (cond a (Some id) (map.get ids l)) ≡ has_label l (cond b (Some (interface, label)) (map.get under q))
    at l q true e true f = f ∙ sym e
    at l q true e false f =
        f ∙ sym (sym (whole.inverse l q) ∙ ap (is_id q) (ap (map.get ids) (eqb-true l label e) ∙ unused))
    at l q false e true f =
        whole.inverse l q ∙ ap (has_label l) (ap (map.get under) (eqb-true q id f) ∙ free) ∙ sym e
    at l q false e false f = whole.inverse l q

few_left : (b : Bool) (n : ℕ) → n ≤ 257 → cond b (n - 1) n ≤ 257
few_left true n h = omega arith
few_left false n h = h

pub whole_removed : (under : map.FinMap nat_cmp (Interface × ℕ)) (ids : map.FinMap nat_cmp ℕ) (id : ℕ)
    (gone : Interface × ℕ) → IsWhole under ids
    → map.get under id ≡ Some gone → IsWhole (map.remove under id) (map.remove ids gone.1)
whole_removed under ids id gone whole here =
    record {
      few = omega (
        arith,
        map.len-remove nat_cmp_total under id,
        few_left (is_some (map.get under id)) (map.len under) whole.few,
      );
      inverse = λ l q.
          ap (is_id q) (get_removed ids gone.1 l)
          ∙ at l q (l == gone.1) refl (q == id) refl
          ∙ sym (ap (has_label l) (get_removed under id q));
    }
  where
    named : map.get ids gone.1 ≡ Some id
    named = id_from id (map.get ids gone.1)
        (whole.inverse gone.1 id ∙ ap (has_label gone.1) here ∙ eq-eqb gone.1 gone.1 refl)

    at : (l q : ℕ) (a : Bool) → (l == gone.1) ≡ a → (b : Bool) → (q == id) ≡ b
        → is_id q (cond a None (map.get ids l)) ≡ has_label l (cond b None (map.get under q))
    at l q true e true f = refl
    at l q true e false f =
        sym (sym (whole.inverse l q) ∙ ap (is_id q) (ap (map.get ids) (eqb-true l gone.1 e) ∙ named) ∙ f)
    at l q false e true f =
        whole.inverse l q ∙ ap (has_label l) (ap (map.get under) (eqb-true q id f) ∙ here) ∙ e
    at l q false e false f = whole.inverse l q

pub whole_same : (a b : map.FinMap nat_cmp (Interface × ℕ)) (c d : map.FinMap nat_cmp ℕ) → a ≡ b → c ≡ d → IsWhole b d →
    IsWhole a c
whole_same a b c d e f whole = subst (λ x. IsWhole x c) (sym e) (subst (λ x. IsWhole b x) (sym f) whole)
