-- The rule of the lock's table: word 0 is the lock, word 1 the length of the history, the slot has
-- the story
use Rattle.std.specs.Prelude.{◌≡◌, ◌⊎◌, ◌+◌, ◌<◌, ◌≤◌, ℕ, Bool, true, false, List, [], ◌∷◌, length, slice_index, Option, Some}
use mathlib.Core.Option.{none, some}
use lib.ListN.{get_elem?}
use Rattle.atomic_table.specs.Table.{State}
use Rattle.atomic_table.specs.Seated.{TableId}
use Rattle.turn_lock.specs.declared.view.View.{View}
use Rattle.turn_lock.specs.declared.view.Meeting.{Meeting}
use Rattle.turn_lock.specs.Pairs.{NoneOf, HasSeen, IsIn, IsDistinct, longer}
use Rattle.turn_lock.specs.Sights.{Sight}

-- 1 where the fact is true
abbrev pub bit : Bool → ℕ
bit true = 1
bit false = 0

-- the longer of the lists that a meeting met has past either no pair with a number that belonged to
-- it
pub record IsMet {E : Type 0} (m : Meeting E) : Type 0 where
  pub mine : HasSeen (longer m.own m.theirs) 0 m.own
  pub taken : (n : ℕ) → IsIn n m.before → HasSeen (longer m.own m.theirs) n m.own
  pub theirs : HasSeen (longer m.own m.theirs) m.number m.theirs

module _ {E C : Type 0} where
  -- the live view v is the seat's at j
  abbrev pub At : List (View E C) → ℕ → View E C → Type 0
  At vs j v = (get_elem? vs j ≡ some v) × (v.is_live ≡ true)

  -- a live view has this number
  abbrev pub IsLive : List (View E C) → ℕ → Type 0
  IsLive vs n = (j : ℕ) × (v : View E C) × At vs j v × (v.number ≡ n)

  abbrev pub live_count : List (View E C) → ℕ
  live_count [] = 0
  live_count (v ∷ vs) = bit v.is_live + live_count vs

  -- the number n was taken in by the view v: all its pairs were seen, and no live view has it
  pub record IsTaken (next : ℕ) (h : List (ℕ × E)) (vs : List (View E C)) (v : View E C)
      (n : ℕ) : Type 0 where
    pub settled : HasSeen h n v.seen
    pub gone : IsLive vs n → ⊥
    pub below : n < next

  -- the first seat's view: each number that was given away is a live view's or was taken in, once
  pub record IsFirst (next : ℕ) (vs : List (View E C)) (v : View E C) : Type 0 where
    pub drawn : v.next ≡ next
    pub tally : live_count vs ≡ v.out + 1
    pub owned : (n : ℕ) → n < next → IsLive vs n ⊎ IsIn n v.taken
    pub once : IsDistinct v.taken
    pub met : IsMet v.met

  -- the views and the history h: each live view has seen a beginning of h, and all of its own pairs
  pub record People (c : C) (h : List (ℕ × E)) (vs : List (View E C)) : Type 0 where
    pub next : ℕ
    pub seen : (j : ℕ) (v : View E C) → At vs j v → HasSeen h v.number v.seen
    pub told : (j : ℕ) (v : View E C) → At vs j v → v.constant ≡ Some c
    pub below : (j : ℕ) (v : View E C) → At vs j v → v.number < next
    pub apart : (i j : ℕ) (v w : View E C) → At vs i v → At vs j w → v.number ≡ w.number → i ≡ j
    pub made : (n : ℕ) → next ≤ n → NoneOf n h
    pub taken : (j : ℕ) (v : View E C) → At vs j v → (n : ℕ) → IsIn n v.taken →
        IsTaken next h vs v n
    pub first : (j : ℕ) (v : View E C) → At vs j v → v.number ≡ 0 → IsFirst next vs v

  -- one view holds the lock, and has seen all; the story is in its seat's hands
  pub record IsHeld {S : Type 0} (h : List (ℕ × E)) (s : State (Option S) (View E C)) : Type 0 where
    pub word : slice_index s.words 0 ≡ 1
    pub home : s.homes ≡ none ∷ []
    pub who : ℕ
    pub holder : View E C
    pub at : At s.views who holder
    pub holds : holder.holds ≡ true
    pub only : (j : ℕ) (v : View E C) → get_elem? s.views j ≡ some v → v.holds ≡ true
        → (j ≡ who) × (v.seen ≡ h)

module _ {S E C : Type 0} (constant : S → C) (history : S → List (ℕ × E)) (c : C) where
  -- no view holds the lock, and the story at home has this history
  pub record IsFree (h : List (ℕ × E)) (s : State (Option S) (View E C)) : Type 0 where
    pub word : slice_index s.words 0 ≡ 0
    pub story : S
    pub home : s.homes ≡ some (Some story) ∷ []
    pub is : history story ≡ h
    pub same : constant story ≡ c
    pub none_holds : (j : ℕ) (v : View E C) → get_elem? s.views j ≡ some v → v.holds ≡ false

  pub record Kept (s : State (Option S) (View E C)) : Type 0 where
    pub h : List (ℕ × E)
    pub two : length s.words ≡ 2
    pub count : slice_index s.words 1 ≡ length h
    pub people : People c h s.views
    pub lock : IsFree h s ⊎ IsHeld h s

-- what contracts see of a view
abbrev pub sight_of : {E C : Type 0} → TableId → View E C → Sight E C
sight_of turn v = record {
  turn = turn;
  number = v.number;
  constant = v.constant;
  seen = v.seen;
  next = v.next;
  out = v.out;
  taken = v.taken;
}
