-- the objects after one call more
use Rattle.std.proofs.Common.{◌≡◌, ℕ, ◌+◌, ◌-◌, List, ◌∷◌, [], Bool, true, false, cond, not, ◌&&◌, Option, Some, None, is_some, refl, sym, subst, ◌∙◌, ap}
use Rattle.std.specs.Prelude.{◌==◌}
use Rattle.std.specs.Ordering.{nat_cmp}
use Rattle.std.specs.Cmp.{nat_cmp_total}
use Rattle.std.specs.FinMap as map
use Rattle.std.proofs.lemmas.Bool.{eqb-true, true≢false}
use Rattle.wl_proto.specs.declared.interface.Interface.{Interface}
use Rattle.im_objects.specs.Calls.{Call, has_label, object_under, id_of, takes_effect, number_live}
use Rattle.im_objects.specs.Calls.Call.{Make, Drop}
use Rattle.im_objects.specs.Objects.{Objects, Stands}
use Rattle.im_objects.proofs.TreeIsMap.{get_inserted, get_removed}

pub none_stand : Stands [] (record { under = map.empty; ids = map.empty })
none_stand = record {
  under = λ id. map.get-empty nat_cmp id;
  ids = λ label. map.get-empty nat_cmp label;
  number = map.len-empty nat_cmp (Interface × ℕ);
}

pub made_stands : (calls : List Call) (objects : Objects) (id : ℕ) (interface : Interface) (label : ℕ) →
    Stands calls objects
    → Stands (Make id interface label ∷ calls)
    (record { under = map.insert objects.under id (interface, label); ids = map.insert objects.ids label id })
made_stands calls objects id interface label s =
    record {
      under = λ q. get_inserted objects.under id (interface, label) q
          ∙ ap (λ o. cond (q == id) (Some (interface, label)) o) (s.under q);
      ids = λ l. get_inserted objects.ids label id l ∙ ap (λ o. cond (l == label) (Some id) o) (s.ids l);
      number =
          map.len-insert nat_cmp_total objects.under id (interface, label)
          ∙ ap (λ o. cond (is_some o) (map.len objects.under) (map.len objects.under + 1)) (s.under id)
          ∙ ap (λ n. cond (is_some (object_under calls id)) n (n + 1)) s.number;
    }

pub dropped_stands : (calls : List Call) (objects : Objects) (id : ℕ) (gone : Interface × ℕ) → Stands calls objects
    → (id == 1) ≡ false → map.get objects.under id ≡ Some gone
    → Stands (Drop id ∷ calls) (record { under = map.remove objects.under id; ids = map.remove objects.ids gone.1 })
dropped_stands calls objects id gone s other here =
    record {
      under = λ q.
          get_removed objects.under id q
          ∙ ap (λ o. cond (q == id) None o) (s.under q)
          ∙ ap (λ b. cond (not b && (q == id)) None (object_under calls q)) (sym other);
      ids = λ l.
          get_removed objects.ids gone.1 l
          ∙ ap (λ o. cond (l == gone.1) None o) (s.ids l)
          ∙ ap (λ o. cond (has_label l o) None (id_of calls l)) (sym here ∙ s.under id)
          ∙ ap (λ b. cond (not b && has_label l (object_under calls id)) None (id_of calls l)) (sym other);
      number =
          map.len-remove nat_cmp_total objects.under id
          ∙ ap (λ o. cond (is_some o) (map.len objects.under - 1) (map.len objects.under)) (s.under id)
          ∙ ap (λ n. cond (is_some (object_under calls id)) (n - 1) n) s.number
          ∙ ap (λ b. cond (not b && is_some (object_under calls id)) (number_live calls - 1) (number_live calls))
          (sym other);
    }

no_object : (o : Option (Interface × ℕ)) → is_some o ≡ false → o ≡ None
no_object None h = refl
no_object (Some object) h = absurd (true≢false h)

-- the display's id, or one under which nothing is
pub kept_stands : (calls : List Call) (objects : Objects) (id : ℕ) → Stands calls objects →
    takes_effect calls id ≡ false → Stands (Drop id ∷ calls) objects
kept_stands calls objects id s none =
    record {
      under = λ q. s.under q ∙ under_kept q (id == 1) none (q == id) refl;
      ids = λ l. s.ids l ∙ ids_kept l (id == 1) none;
      number = s.number ∙ ap (λ b. cond b (number_live calls - 1) (number_live calls)) (sym none);
    }
  where
    under_kept : (q : ℕ) (display : Bool) → (not display && is_some (object_under calls id)) ≡ false → (b : Bool) →
        (q == id) ≡ b
        → object_under calls q ≡ cond (not display && b) None (object_under calls q)
    under_kept q true h b e = refl
    under_kept q false h true e = ap (object_under calls) (eqb-true q id e) ∙ no_object (object_under calls id) h
    under_kept q false h false e = refl

    ids_kept : (l : ℕ) (display : Bool) → (not display && is_some (object_under calls id)) ≡ false
        → id_of calls l ≡ cond (not display && has_label l (object_under calls id)) None (id_of calls l)
    ids_kept l true h = refl
    ids_kept l false h = sym (ap (λ o. cond (has_label l o) None (id_of calls l)) (no_object (object_under calls id) h))

pub same_objects : (a b : map.FinMap nat_cmp (Interface × ℕ)) (c d : map.FinMap nat_cmp ℕ) → a ≡ b → c ≡ d
    → ◌≡◌ {A = Objects} (record { under = a; ids = c }) (record { under = b; ids = d })
same_objects a b c d e f = λ i. record { under = e i; ids = f i }

pub stands_same : (calls : List Call) (a b : map.FinMap nat_cmp (Interface × ℕ)) (c d : map.FinMap nat_cmp ℕ) → a ≡ b →
    c ≡ d
    → Stands calls (record { under = b; ids = d }) → Stands calls (record { under = a; ids = c })
stands_same calls a b c d e f s = subst (λ o. Stands calls o) (sym (same_objects a b c d e f)) s
