-- what stays in the tree of the boards where a peer ends
use Rattle.std.proofs.Common.{◌≡◌, ℕ, List, Bool, true, false, not, cond, Option, Some, None, refl, sym, ◌∙◌, ap}
use Rattle.std.specs.Prelude.{◌==◌, if◌then◌else◌, filter}
use Rattle.std.specs.Ordering.{nat_cmp}
use Rattle.std.specs.Option.{is_some, option_map}
use Rattle.std.specs.Cmp.{nat_cmp_total, eq_by_cmp_equiv}
use Rattle.std.specs.BTreeMap.{BTreeMap, IsOrdered, is_at}
use Rattle.std.specs.Map.{lookup, keys_of}
use Rattle.std.specs.FinMap as map
use Rattle.std.proofs.lemmas.Map.Entries.{option_filter, lookup-filter-values}
use Rattle.std.proofs.lemmas.Map.Keys.{IsDistinct-from_sorted}
use Rattle.virt_keys.specs.Boards.{Board}
use Rattle.virt_keys.specs.PeerBoards.{unless_of}
use Rattle.virt_keys.proofs.BoardTree.{boards_of, board_at}

-- the board isn't the peer's
abbrev pub is_other : (peer : ℕ) → Board → Bool
is_other peer board = not (board.peer == peer)

sifted : (peer : ℕ) (o : Option Board) → option_filter (is_other peer) o ≡ unless_of peer o
sifted peer None = refl
sifted peer (Some board) = at (board.peer == peer)
  where
    at : (b : Bool) → cond (not b) (Some board) None ≡ (if b then None else Some board)
    at true = refl
    at false = refl

pub peer_left : (m n : BTreeMap ℕ Board) (peer board : ℕ) → IsOrdered nat_cmp m →
    n.entries ≡ filter (λ e. is_other peer e.1) m.entries →
    map.get (boards_of n.entries) board ≡ unless_of peer (map.get (boards_of m.entries) board)
peer_left m n peer board ordered left =
    board_at n board
    ∙ ap (λ (es : List (ℕ × Board)). lookup (is_at (nat_cmp board)) es) left
    ∙ lookup-filter-values (eq_by_cmp_equiv nat_cmp_total) (is_other peer) board m.entries
    (IsDistinct-from_sorted nat_cmp (keys_of m.entries) ordered)
    ∙ sifted peer (lookup (is_at (nat_cmp board)) m.entries)
    ∙ ap (unless_of peer) (sym (board_at m board))

-- what is found is there
pub some_mapped : {A B : Type 0} (f : A → B) (o : Option A) → is_some o ≡ is_some (option_map f o)
some_mapped f None = refl
some_mapped f (Some x) = refl
