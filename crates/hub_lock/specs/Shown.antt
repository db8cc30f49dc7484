-- A history without the pairs that a view leaves out
use Rattle.std.specs.Prelude.{ℕ, List, [], ◌∷◌, Option, Some, None}
use Rattle.turn_lock.specs.Sights.{Sight}

module _ {A B : Type 0} (f : A → Option B) where
  -- the pair, as it is shown, before others
  abbrev pub with_shown : ℕ → Option B → List (ℕ × B) → List (ℕ × B)
  with_shown n None h = h
  with_shown n (Some b) h = (n, b) ∷ h

  -- the pairs that are shown, as they are shown
  abbrev pub shown : List (ℕ × A) → List (ℕ × B)
  shown [] = []
  shown (x ∷ xs) = with_shown x.0 (f x.1) (shown xs)

  -- a seat, as it is shown
  abbrev pub shown_sight : {C : Type 0} → Sight A C → Sight B C
  shown_sight s = record {
    turn = s.turn;
    number = s.number;
    constant = s.constant;
    seen = shown s.seen;
    next = s.next;
    out = s.out;
    taken = s.taken;
  }
