-- What stays of the store of a peer that ended, as a store with nothing in it is given back.
use Rattle.std.proofs.Common.{◌≡◌, ℕ, List, [], ◌∷◌, drop, Option, Some, None, IfSome, ap, refl, sym, subst, ◌∙◌}
use Rattle.std.proofs.Math.Seq.{drop-nil}
use Rattle.out_store.specs.Queue.{Cell, Queue, queue}
use Rattle.broker_model.specs.Ends.{cells_in, unless_empty, kept, rest_of}
use Rattle.broker_core.specs.Stands.{store_of}

-- an empty one in its place has the same cells
pub cells_of_store : (capacity : ℕ) (store : Option Queue) → cells_in store ≡ (store_of capacity store).cells
cells_of_store capacity None = refl
cells_of_store capacity (Some store) = refl

-- what is kept of a store comes to the store
pub store_kept : (store : Queue) → store_of store.capacity (kept store) ≡ store
store_kept store = by store.cells refl
  where
    by : (cells : List Cell) → store.cells ≡ cells → store_of store.capacity (unless_empty cells store) ≡ store
    by [] e = ap (λ (cells : List Cell). queue cells store.capacity) (sym e)
    by (cell ∷ cells) e = refl

-- and something is in it
kept_filled : (store : Queue) → IfSome (kept store) (λ stays. ¬ (stays.cells ≡ []))
kept_filled store = by store.cells refl
  where
    by : (cells : List Cell) → store.cells ≡ cells → IfSome (unless_empty cells store) (λ stays. ¬ (stays.cells ≡ []))
    by [] e = tt
    by (cell ∷ cells) e = λ f. cc

-- so with what stays once the first n cells were taken
pub rest_filled : (n : ℕ) (was : Option Queue) → IfSome (rest_of n was) (λ stays. ¬ (stays.cells ≡ []))
rest_filled n None = tt
rest_filled n (Some was) = kept_filled (queue (drop n was.cells) was.capacity)

pub rest_holds : (n : ℕ) (was : Option Queue) (store : Queue) → store_of store.capacity was ≡ store →
    store_of store.capacity (rest_of n was) ≡ queue (drop n store.cells) store.capacity
rest_holds n None store e =
    ap (λ (cells : List Cell). queue cells store.capacity)
    (sym (drop-nil n) ∙ ap (λ (q : Queue). drop n q.cells) e)
rest_holds n (Some was) store e =
    subst
    (λ (q : Queue). store_of q.capacity (kept (queue (drop n was.cells) was.capacity)) ≡
    queue (drop n q.cells) q.capacity)
    e (store_kept (queue (drop n was.cells) was.capacity))
