-- What stays of the peers of a seat that ended, by their numbers.
use Rattle.std.specs.Prelude.{◌≡◌, ℕ, suc, ◌+◌, ◌-◌, ◌≤◌, List, [], ◌∷◌, drop, ◌==◌, if◌then◌else◌, Option, Some, None}
use Rattle.std.specs.List.{slice_get}
use Rattle.std.specs.Option.{option_or}
use Rattle.out_store.specs.Queue.{Cell, Queue, queue}
use Rattle.relay_model.specs.declared.act.EndCause.{EndCause}
use Rattle.broker_model.specs.declared.left.Left.{Left}

-- what stays of a peer that ended: why, and what is stored for it, unless all was taken
pub record Ended : Type 0 where
  pub cause : EndCause
  pub store : Option Queue

-- of each peer that joined, from the number 1 on, what stays of it: nothing while it is alive; and
-- how many more may join before memory has to be taken
pub record Ends : Type 0 where
  pub items : List (Option Ended)
  pub room : ℕ

-- the cells of a store, if there is one
abbrev pub cells_in : Option Queue → List Cell
cells_in None = []
cells_in (Some store) = store.cells

-- the store, unless these cells of it are none
abbrev pub unless_empty : List Cell → Queue → Option Queue
unless_empty [] store = None
unless_empty (cell ∷ cells) store = Some store

-- what is kept of a store: nothing where it is empty
abbrev pub kept : Queue → Option Queue
kept store = unless_empty store.cells store

-- what is kept of it once its first n cells were taken
abbrev pub rest_of : ℕ → Option Queue → Option Queue
rest_of n None = None
rest_of n (Some store) = kept (queue (drop n store.cells) store.capacity)

-- of what stands at a peer's place, what stays of the peer, if it ended
abbrev pub ended_in : Option (Option Ended) → Option Ended
ended_in None = None
ended_in (Some ended) = ended

-- what stays of the peer with the number, if it ended
abbrev pub ended_with : (number : ℕ) → List (Option Ended) → Option Ended
ended_with number ended = ended_in (slice_get ended (number - 1))

-- the cells that are stored for it
abbrev pub cells_left : Option Ended → List Cell
cells_left None = []
cells_left (Some ended) = cells_in ended.store

-- what stays of it once the first n cells were taken
abbrev pub after_take : ℕ → Option Ended → Option Ended
after_take n None = None
after_take n (Some ended) = Some (record { cause = ended.cause; store = rest_of n ended.store })

-- the store of one, if it is of the peer with the number
abbrev pub own_store : (number : ℕ) → Left → Option Queue
own_store number one = (if one.number == number then Some one.store else None)

-- the last store of the peer with the number
abbrev pub store_at : (number : ℕ) → List Left → Option Queue
store_at number [] = None
store_at number (one ∷ rest) = option_or (store_at number rest) (own_store number one)

-- the last of the peer with the number stands at the place
pub record IsLast (number place : ℕ) (left : List Left) : Type 0 where
  pub one : Left
  pub there : slice_get left place ≡ Some one
  pub own : one.number ≡ number
  pub later : store_at number (drop (place + 1) left) ≡ None

-- what stays of the peer with the number: nothing while it is alive
abbrev pub ended_at : (number : ℕ) → Option EndCause → List Left → Option Ended
ended_at number None left = None
ended_at number (Some cause) left = Some (record { cause = cause; store = store_at number left })

-- the same of peers from a number on, of which these are the causes
abbrev pub ended_from : (number : ℕ) → List (Option EndCause) → List Left → List (Option Ended)
ended_from number [] left = []
ended_from number (cause ∷ causes) left =
    ended_at number cause left ∷ ended_from (suc number) causes left

-- how many are alive
abbrev pub number_alive : List (Option EndCause) → ℕ
number_alive [] = 0
number_alive (None ∷ causes) = number_alive causes + 1
number_alive (Some cause ∷ causes) = number_alive causes

-- why the peer with the number ended, if it did
abbrev pub cause_in : Option (Option EndCause) → Option EndCause
cause_in None = None
cause_in (Some cause) = cause

abbrev pub cause_at : (number : ℕ) → List (Option EndCause) → Option EndCause
cause_at number causes = cause_in (slice_get causes (number - 1))

-- so many are alive, for each of them there is place for its store, and no store is of one of them
pub record IsTidy (alive : ℕ) (causes : List (Option EndCause)) (left : List Left)
    (places : ℕ) : Type 0 where
  pub number : alive ≡ number_alive causes
  pub enough : alive ≤ places
  pub none : (n : ℕ) → cause_at n causes ≡ None → store_at n left ≡ None
