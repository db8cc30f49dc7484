-- A store over a list of calls, the newest first.
use Rattle.std.specs.Prelude.{◌≡◌, ℕ, ◌+◌, nat_le, if◌then◌else◌, List, [], ◌∷◌, ◌++◌, length, take, drop}
use Rattle.out_store.specs.Queue.{Cell}

-- a group that is offered, or a take of up to so many bytes
pub data Call : Type 0 where
  Put : List Cell → Call
  Take : ℕ → Call

-- what waits after the calls
abbrev pub stored : ℕ → List Call → List Cell
stored capacity [] = []
stored capacity (Put group ∷ older) =
    if nat_le (length (stored capacity older) + length group) capacity
    then stored capacity older ++ group else stored capacity older
stored capacity (Take n ∷ older) = drop n (stored capacity older)

-- the groups that were put, one after another
abbrev pub put : ℕ → List Call → List Cell
put capacity [] = []
put capacity (Put group ∷ older) =
    if nat_le (length (stored capacity older) + length group) capacity
    then put capacity older ++ group else put capacity older
put capacity (Take n ∷ older) = put capacity older

-- what was taken
abbrev pub taken : ℕ → List Call → List Cell
taken capacity [] = []
taken capacity (Put group ∷ older) = taken capacity older
taken capacity (Take n ∷ older) = taken capacity older ++ take n (stored capacity older)

-- what was taken, followed by what waits, is the groups that were put, in order
abbrev pub NothingIsLost : Type 0
NothingIsLost =
    (capacity : ℕ) (calls : List Call) →
    taken capacity calls ++ stored capacity calls ≡ put capacity calls
