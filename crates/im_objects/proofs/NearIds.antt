-- what is under each of the first ids stays what the map has there
use Rattle.std.proofs.Common.{◌≡◌, ℕ, ◌<◌, List, length, get_or, set, cond, Option, Some, None, inl, inr, sym, ap, ◌∙◌, subst}
use Rattle.std.specs.Prelude.{◌==◌}
use Rattle.std.specs.Ordering.{nat_cmp}
use Rattle.std.specs.FinMap as map
use Rattle.std.proofs.lemmas.Bool.Decides.{eqb_tells}
use Rattle.std.proofs.lemmas.List.{length-set, get_or-set_other}
use Rattle.std.proofs.lemmas.Grind.{get_or-set_at}
use Rattle.wl_proto.specs.declared.interface.Interface.{Interface}
use Rattle.im_objects.specs.Objects.{AreNear}
use Rattle.im_objects.proofs.TreeIsMap.{get_inserted, get_removed}

abbrev Object : Type 0
Object = Interface × ℕ

near_set : (near : List (Option Object)) (under after : map.FinMap nat_cmp Object) (id : ℕ) (o : Option Object) →
    AreNear near under
    → ((q : ℕ) → map.get after q ≡ cond (q == id) o (map.get under q)) → AreNear (set near id o) after
near_set near under after id o all change q l =
    let within : q < length near = subst (λ n. q < n) (length-set near id o) l in
    elim (eqb_tells q id) [
      | inl p ↦
          let here : id < length near = subst (λ k. k < length near) (p.1) within in
          get_or-set_at near id q o None (p.1) here ∙ sym (change q ∙ ap (λ b. cond b o (map.get under q)) (p.0))
      | inr p ↦
          get_or-set_other near id q o None (p.1) ∙ all q within
          ∙ sym (change q ∙ ap (λ b. cond b o (map.get under q)) (p.0))
    ]

pub near_inserted : (near : List (Option Object)) (under : map.FinMap nat_cmp Object) (id : ℕ) (object : Object) →
    AreNear near under
    → AreNear (set near id (Some object)) (map.insert under id object)
near_inserted near under id object all =
    near_set near under (map.insert under id object) id (Some object) all (get_inserted under id object)

pub near_removed : (near : List (Option Object)) (under : map.FinMap nat_cmp Object) (id : ℕ) → AreNear near under
    → AreNear (set near id None) (map.remove under id)
near_removed near under id all = near_set near under (map.remove under id) id None all (get_removed under id)

pub near_same : (near : List (Option Object)) (a b : map.FinMap nat_cmp Object) → a ≡ b → AreNear near b →
    AreNear near a
near_same near a b e all = subst (AreNear near) (sym e) all

pub near_none : (near : List (Option Object)) → ((i : ℕ) → i < length near → get_or near i None ≡ None) →
    AreNear near map.empty
near_none near all q l = all q l ∙ sym (map.get-empty nat_cmp q)
