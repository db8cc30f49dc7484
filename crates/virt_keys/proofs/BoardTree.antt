-- the tree of the boards as the finite map that it is
use Rattle.std.proofs.Common.{◌≡◌, ℕ, List, [], ◌∷◌, Bool, true, false, cond, Option, Some, None, IfSome, IsSome, refl, sym, ◌∙◌, ap, subst}
use Rattle.std.specs.Prelude.{◌==◌}
use Rattle.std.specs.Ordering.{nat_cmp}
use Rattle.std.specs.Cmp.{nat_cmp_total, unsigned_tied, eq_by_cmp_equiv}
use Rattle.std.specs.Map.{lookup}
use Rattle.std.specs.Option.{option_map, is_some}
use Rattle.std.proofs.lemmas.Bool.{eqb-true, false≢true}
use Rattle.std.specs.BTreeMap.{BTreeMap, Updates, WritesThrough, is_at}
use Rattle.std.specs.BTreeMap as tree
use Rattle.std.specs.FinMap as map
use Rattle.virt_keys.specs.Boards.{Board, Boards}

-- the boards of a list of entries
abbrev pub boards_of : List (ℕ × Board) → Boards
boards_of entries = map.from_entries entries

found : (q : ℕ) (es : List (ℕ × Board)) → map.find nat_cmp q es ≡ lookup (is_at (nat_cmp q)) es
found q [] = refl
found q (e ∷ es) = ap (λ o. cond (is_at (nat_cmp q) e.0) (Some e.1) o) (found q es)

-- what the tree has under a label
pub board_at : (m : BTreeMap ℕ Board) (label : ℕ) → map.get (boards_of m.entries) label ≡ tree.get nat_cmp m label
board_at m label = map.get-from_entries nat_cmp_total m.entries label ∙ found label m.entries

-- what a board put in, and one taken out, leave under a label
pub after_insert : (m : Boards) (k : ℕ) (b : Board) (q : ℕ)
    → map.get (map.insert m k b) q ≡ cond (q == k) (Some b) (map.get m q)
after_insert m k b q =
    map.get-insert nat_cmp_total m k b q ∙ ap (λ h. cond h (Some b) (map.get m q)) (unsigned_tied q k)

pub after_remove : (m : Boards) (k q : ℕ) → map.get (map.remove m k) q ≡ cond (q == k) None (map.get m q)
after_remove m k q = map.get-remove nat_cmp_total m k q ∙ ap (λ h. cond h None (map.get m q)) (unsigned_tied q k)

other_way : (k q : ℕ) → is_at (nat_cmp k) q ≡ (q == k)
other_way k q = (eq_by_cmp_equiv nat_cmp_total).symm k q ∙ unsigned_tied q k

updated : (m n : BTreeMap ℕ Board) (k : ℕ) (w : Option Board) → Updates nat_cmp m n k w → (q : ℕ)
    → map.get (boards_of n.entries) q ≡ cond (q == k) w (map.get (boards_of m.entries) q)
updated m n k w up q =
    board_at n q ∙ up.0 q
    ∙ ap (λ h. cond h w (tree.get nat_cmp m q)) (other_way k q)
    ∙ ap (λ o. cond (q == k) w o) (sym (board_at m q))

-- the tree with a board put in or written over, and with one taken out
pub board_put : (m n : BTreeMap ℕ Board) (k : ℕ) (b : Board) → Updates nat_cmp m n k (Some b)
    → boards_of n.entries ≡ map.insert (boards_of m.entries) k b
board_put m n k b up =
    map.same_map nat_cmp_total map.nat_cmp-IsAntisymmetric _ _
    (λ q. updated m n k (Some b) up q ∙ sym (after_insert (boards_of m.entries) k b q))

pub board_left : (m n : BTreeMap ℕ Board) (k : ℕ) → Updates nat_cmp m n k None
    → boards_of n.entries ≡ map.remove (boards_of m.entries) k
board_left m n k down =
    map.same_map nat_cmp_total map.nat_cmp-IsAntisymmetric _ _
    (λ q. updated m n k None down q ∙ sym (after_remove (boards_of m.entries) k q))

-- what holds of the board that is there
pub of_found : (P : Board → Type 0) (o : Option Board) (b : Board) → o ≡ Some b → P b → IfSome o P
of_found P o b e p = subst (λ (x : Option Board). IfSome x P) (sym e) p

some_before : {A B : Type 0} (f : A → B) (o : Option A) (x : Option B) → option_map f o ≡ x → IsSome x → IsSome o
some_before f None x e s = absurd (false≢true (ap is_some e ∙ s))
some_before f (Some a) x e s = refl

-- a board that is written over by itself changes nothing
pub put_same : (m : Boards) (k : ℕ) (b : Board) → map.get m k ≡ Some b → map.insert m k b ≡ m
put_same m k b there =
    map.same_map nat_cmp_total map.nat_cmp-IsAntisymmetric _ _ (λ q. after_insert m k b q ∙ at q (q == k) refl)
  where
    at : (q : ℕ) (h : Bool) → (q == k) ≡ h → cond h (Some b) (map.get m q) ≡ map.get m q
    at q true e = sym (ap (map.get m) (eqb-true q k e) ∙ there)
    at q false e = refl

-- where a board is live, the tree finds it
pub finds : {A : Type 0} (f : A → Board) (m : BTreeMap ℕ Board) (k : ℕ) (o : Option A)
    → option_map f o ≡ tree.get nat_cmp m k → IsSome (map.get (boards_of m.entries) k) → IsSome o
finds f m k o e live = some_before f o (tree.get nat_cmp m k) e (sym (ap is_some (board_at m k)) ∙ live)

-- and that is the board
pub found_board : {A : Type 0} (f : A → Board) (m : BTreeMap ℕ Board) (k : ℕ) (o : Option A) (a : A)
    → option_map f o ≡ tree.get nat_cmp m k → o ≡ Some a → map.get (boards_of m.entries) k ≡ Some (f a)
found_board f m k o a e is = board_at m k ∙ sym e ∙ ap (option_map f) is

-- a board written through
pub board_written : (m n : BTreeMap ℕ Board) (k : ℕ) (old new : Board) → WritesThrough nat_cmp (nat_cmp k) m new n
    → map.get (boards_of m.entries) k ≡ Some old → boards_of n.entries ≡ map.insert (boards_of m.entries) k new
board_written m n k old new w there = board_put m n k new (w.3 (ap is_some (sym (board_at m k) ∙ there)))
