-- a tree as the finite map that it is
use Rattle.std.proofs.Common.{◌≡◌, ℕ, List, [], ◌∷◌, Bool, true, false, cond, Option, Some, None, is_some, length, refl, sym, ◌∙◌, ap, arith}
use Rattle.std.specs.Prelude.{◌==◌}
use Rattle.std.specs.Ordering.{nat_cmp}
use Rattle.std.specs.Cmp.{nat_cmp_total, unsigned_tied, eq_by_cmp_equiv}
use Rattle.std.specs.Map.{lookup, keys_of}
use Rattle.std.specs.List.Sorted.{IsStrictlySortedBy}
use Rattle.std.specs.BTreeMap.{BTreeMap, IsOrdered, Updates, is_at, btree_map_len}
use Rattle.std.specs.BTreeMap as tree
use Rattle.std.specs.FinMap as map
use Rattle.std.proofs.lemmas.Bool.{eqb-true, eq-eqb, cond-false}
use Rattle.std.proofs.lemmas.Map.{lookup-none}
use Rattle.std.proofs.lemmas.Map.Keys.{IsDistinct-from_sorted, sorted_tail}
use Rattle.std.proofs.lemmas.Map.Entries.{none_past_head}

-- the entries as a map
abbrev pub map_of : {X : Type 0} → List (ℕ × X) → map.FinMap nat_cmp X
map_of entries = map.from_entries entries

found : {X : Type 0} (q : ℕ) (es : List (ℕ × X)) → map.find nat_cmp q es ≡ lookup (is_at (nat_cmp q)) es
found q [] = refl
found q (e ∷ es) = ap (λ o. cond (is_at (nat_cmp q) e.0) (Some e.1) o) (found q es)

pub get_tree : {X : Type 0} (m : BTreeMap ℕ X) (q : ℕ) → map.get (map_of m.entries) q ≡ tree.get nat_cmp m q
get_tree m q = map.get-from_entries nat_cmp_total m.entries q ∙ found q m.entries

-- what an insertion and a removal leave, by keys that are equal
pub get_inserted : {X : Type 0} (m : map.FinMap nat_cmp X) (k : ℕ) (v : X) (q : ℕ) →
    map.get (map.insert m k v) q ≡ cond (q == k) (Some v) (map.get m q)
get_inserted m k v q =
    map.get-insert nat_cmp_total m k v q ∙ ap (λ b. cond b (Some v) (map.get m q)) (unsigned_tied q k)

pub get_removed : {X : Type 0} (m : map.FinMap nat_cmp X) (k q : ℕ) →
    map.get (map.remove m k) q ≡ cond (q == k) None (map.get m q)
get_removed m k q = map.get-remove nat_cmp_total m k q ∙ ap (λ b. cond b None (map.get m q)) (unsigned_tied q k)

turned : (k q : ℕ) → is_at (nat_cmp k) q ≡ (q == k)
turned k q = (eq_by_cmp_equiv nat_cmp_total).symm k q ∙ unsigned_tied q k

changed : {X : Type 0} (m n : BTreeMap ℕ X) (k : ℕ) (w : Option X) → Updates nat_cmp m n k w → (q : ℕ) →
    map.get (map_of n.entries) q ≡ cond (q == k) w (map.get (map_of m.entries) q)
changed m n k w up q =
    get_tree n q ∙ up.0 q
    ∙ ap (λ b. cond b w (tree.get nat_cmp m q)) (turned k q)
    ∙ ap (λ o. cond (q == k) w o) (sym (get_tree m q))

pub inserted : {X : Type 0} (m n : BTreeMap ℕ X) (k : ℕ) (v : X) → Updates nat_cmp m n k (Some v) →
    map_of n.entries ≡ map.insert (map_of m.entries) k v
inserted m n k v up =
    map.same_map nat_cmp_total map.nat_cmp-IsAntisymmetric _ _
    (λ q. changed m n k (Some v) up q ∙ sym (get_inserted (map_of m.entries) k v q))

pub removed : {X : Type 0} (m n : BTreeMap ℕ X) (k : ℕ) → Updates nat_cmp m n k None →
    map_of n.entries ≡ map.remove (map_of m.entries) k
removed m n k down =
    map.same_map nat_cmp_total map.nat_cmp-IsAntisymmetric _ _
    (λ q. changed m n k None down q ∙ sym (get_removed (map_of m.entries) k q))

-- a key that is put in and taken out again leaves the map as it was
pub put_back : {X : Type 0} (m n o : BTreeMap ℕ X) (k : ℕ) (v : X) → map.get (map_of m.entries) k ≡ None
    → Updates nat_cmp m n k (Some v) → Updates nat_cmp n o k None → map_of o.entries ≡ map_of m.entries
put_back m n o k v absent up down =
    map.same_map nat_cmp_total map.nat_cmp-IsAntisymmetric _ _
    (λ q. changed n o k None down q ∙ ap (λ x. cond (q == k) None x) (changed m n k (Some v) up q) ∙ at q (q == k) refl)
  where
    at : (q : ℕ) (b : Bool) → (q == k) ≡ b →
        cond b None (cond b (Some v) (map.get (map_of m.entries) q)) ≡ map.get (map_of m.entries) q
    at q true e = sym (ap (map.get (map_of m.entries)) (eqb-true q k e) ∙ absent)
    at q false e = refl

len_of : {X : Type 0} (es : List (ℕ × X)) → IsStrictlySortedBy nat_cmp (keys_of es) → map.len (map_of es) ≡ length es
len_of {X} [] s = map.len-empty nat_cmp X
len_of (e ∷ es) s =
    let none : map.get (map_of es) e.0 ≡ None =
    map.get-from_entries nat_cmp_total es e.0 ∙ found e.0 es
    ∙ lookup-none (is_at (nat_cmp e.0)) es
    (none_past_head (eq_by_cmp_equiv nat_cmp_total) e.0 e es (IsDistinct-from_sorted nat_cmp (keys_of (e ∷ es)) s)
    (unsigned_tied e.0 e.0 ∙ eq-eqb e.0 e.0 refl)) in
    map.len-insert nat_cmp_total (map_of es) e.0 e.1
    ∙ cond-false (is_some (map.get (map_of es) e.0)) _ _ (ap is_some none)
    ∙ omega (arith, len_of es (sorted_tail nat_cmp e.0 (keys_of es) s))

pub len_tree : {X : Type 0} (m : BTreeMap ℕ X) → IsOrdered nat_cmp m → map.len (map_of m.entries) ≡ btree_map_len m
len_tree m s = len_of m.entries s
