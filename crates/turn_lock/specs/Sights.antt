-- What contracts see of a seat, and what the calls of a turn lock tell
use Rattle.std.specs.Prelude.{◌≡◌, ◌≤◌, ◌<◌, ◌+◌, ◌-◌, ◌^◌, ℕ, List, [], ◌∷◌, ◌++◌, length, Option, Some}
use Rattle.atomic_table.specs.Seated.{TableId}
use Rattle.turn_lock.specs.Pairs.{NoneOf, HasSeen, IsGrown, IsIn, IsDistinct, longer, total}

-- a seat: the lock that it is of, its number, the story's constant and the beginning of the history
-- that it has seen; of the first seat besides: the number that its next split gives away, how many
-- split seats are out, and the numbers of those that it has taken in, the last first
pub record Sight (E C : Type 0) : Type 0 where
  pub turn : TableId
  pub number : ℕ
  pub constant : Option C
  pub seen : List (ℕ × E)
  pub next : ℕ
  pub out : ℕ
  pub taken : List ℕ

module _ {E C : Type 0} where
  -- a seat that has made nothing and split off nothing
  abbrev pub fresh_seat : TableId → ℕ → Option C → List (ℕ × E) → Sight E C
  fresh_seat turn n c seen =
      record { turn = turn; number = n; constant = c; seen = seen; next = 1; out = 0; taken = [] }

  -- the first seat after it split off another, which is `split_off` of what it was
  abbrev pub after_split : Sight E C → Sight E C
  after_split s = record s { next = s.next + 1; out = s.out + 1 }

  abbrev pub split_off : Sight E C → Sight E C
  split_off s = fresh_seat s.turn s.next s.constant s.seen

  -- the first seat after it took in another
  abbrev pub met_with : Sight E C → Sight E C → Sight E C
  met_with s other =
      record s { seen = longer s.seen other.seen; out = s.out - 1; taken = other.number ∷ s.taken }

  -- the seat, having seen this history
  abbrev pub having_seen : Sight E C → List (ℕ × E) → Sight E C
  having_seen s h = record s { seen = h }

  -- what a meeting of two seats tells of the longer of their seen lists: it begins with both, and
  -- past either list no pair is of a seat that the list's seat was or had taken in
  pub record IsMeeting (s other : Sight E C) (h : List (ℕ × E)) : Type 0 where
    pub mine : HasSeen h s.number s.seen
    pub taken : (n : ℕ) → IsIn n s.taken → HasSeen h n s.seen
    pub theirs : HasSeen h other.number other.seen

  -- what the first seat knows of the history that it has seen: no pair has a number that is still
  -- to be given away; it has taken in neither itself nor a number twice; the pairs of it and of the
  -- seats taken in can be counted, and with none out they are all
  pub record IsTallied (s : Sight E C) : Type 0 where
    pub fresh : (n : ℕ) → s.next ≤ n → NoneOf n s.seen
    pub apart : IsIn 0 s.taken → ⊥
    pub once : IsDistinct s.taken
    pub few : total (0 ∷ s.taken) s.seen < 2 ^ 64
    pub all : s.out ≡ 0 → total (0 ∷ s.taken) s.seen ≡ length s.seen

-- the call law: the call was played at a history that begins with all that the seat had seen, and
-- past that has no pair of it or of a seat that it took in; the seat has then seen that history,
-- and its own pair where one was made
pub record IsLegal {E C Call Reply : Type 0}
    (Rule : C → List (ℕ × E) → Call → List (ℕ × E) → Call → Reply → Type 0)
    (seat : Sight E C) (call : Call) (seen : List (ℕ × E)) (call' : Call)
    (reply : Reply) : Type 0 where
  pub constant : C
  pub told : seat.constant ≡ Some constant
  pub rest : List (ℕ × E)
  pub apart : NoneOf seat.number rest
  pub settled : (n : ℕ) → IsIn n seat.taken → NoneOf n rest
  pub plays : Rule constant (seat.seen ++ rest) call seen call' reply
  pub grows : IsGrown seat.number (seat.seen ++ rest) seen
