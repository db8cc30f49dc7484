-- What each step on the lock's table does to the seat's view, and what it tells
use Rattle.std.specs.Prelude.{◌≡◌, ◌≢◌, ◌+◌, ◌-◌, ◌<◌, ◌^◌, ℕ, Bool, true, false, List, [], ◌∷◌, ◌++◌, length, Option, Some, None}
use Rattle.atomic_table.specs.Table.{Me, Step}
use Rattle.turn_lock.specs.declared.view.View.{View}
use Rattle.turn_lock.specs.declared.view.Meeting.{Meeting}
use Rattle.turn_lock.specs.Pairs.{HasSeen, IsIn, longer}
use Rattle.turn_lock.specs.Sights.{IsTallied}
use Rattle.turn_lock.specs.Rule.{IsMet, sight_of}

-- the history after a play is longer by one pair with this number, or it is the same
abbrev pub GrownIf : {E : Type 0} → Bool → ℕ → List (ℕ × E) → List (ℕ × E) → Type 0
GrownIf {E} true n before after = (entry : E) × (after ≡ before ++ (n, entry) ∷ [])
GrownIf false n before after = after ≡ before

abbrev pub no_meeting : {E : Type 0} → Meeting E
no_meeting = record { own = []; theirs = []; number = 0; before = [] }

module _ {E C : Type 0} where
  -- the view, with the lock or without, and having seen this
  abbrev pub hold : View E C → Bool → List (ℕ × E) → View E C
  hold v b h = record v { holds = b; seen = h }

  abbrev pub newcomer : ℕ → Option C → List (ℕ × E) → View E C
  newcomer n c h = record {
    number = n;
    is_live = true;
    constant = c;
    holds = false;
    seen = h;
    next = 1;
    out = 0;
    taken = [];
    met = no_meeting;
  }

  abbrev pub view_after_split : View E C → View E C
  view_after_split v = record v { next = v.next + 1; out = v.out + 1 }

  abbrev pub view_split_off : View E C → View E C
  view_split_off v = newcomer v.next v.constant v.seen

  abbrev pub view_met_with : View E C → View E C → View E C
  view_met_with v w = record v {
    seen = longer v.seen w.seen;
    out = v.out - 1;
    taken = w.number ∷ v.taken;
    met = record { own = v.seen; theirs = w.seen; number = w.number; before = v.taken };
  }

  -- the view of a seat that was taken in
  abbrev pub spent : View E C
  spent = record {
    number = 0;
    is_live = false;
    constant = None;
    holds = false;
    seen = [];
    next = 0;
    out = 0;
    taken = [];
    met = no_meeting;
  }

  -- what the first seat's view says of the history that it has seen
  abbrev pub Tallied : View E C → Type 0
  Tallied v = v.number ≡ 0 → (turn : _) → IsTallied (sight_of turn v)

module _ {S E C : Type 0} where
  -- a live seat without the lock, which holds no slot
  pub record AtRest (m : Me (Option S) (View E C)) : Type 0 where
    pub empty : m.1 ≡ []
    pub free : m.0.holds ≡ false
    pub live : m.0.is_live ≡ true

  -- a seat between two calls, as the fields beside it tell
  pub record IsIdle (m : Me (Option S) (View E C)) (number made : ℕ) : Type 0 where
    pub rest : AtRest m
    pub number_is : m.0.number ≡ number
    pub next_is : m.0.next ≡ made + 1
    pub tallied : Tallied m.0

  -- a seat with the lock and the story x, which has played
  pub record Ready (history : S → List (ℕ × E)) (m : Me (Option S) (View E C)) (x : S)
      (grew : Bool) : Type 0 where
    pub hands : m.1 ≡ (0, Some x) ∷ []
    pub holds : m.0.holds ≡ true
    pub live : m.0.is_live ≡ true
    pub fits : length (history x) < 2 ^ 64
    pub grown : GrownIf grew m.0.number m.0.seen (history x)

  -- the seat won the lock: the slot is in its hands, and it has seen all of the history
  pub record Won (constant : S → C) (history : S → List (ℕ × E))
      (m n : Me (Option S) (View E C)) : Type 0 where
    pub story : S
    pub hands : n.1 ≡ (0, Some story) ∷ m.1
    pub view : n.0 ≡ hold m.0 true (history story)
    pub told : m.0.constant ≡ Some (constant story)
    pub seen : HasSeen (history story) m.0.number m.0.seen
    pub settled : (k : ℕ) → IsIn k m.0.taken → HasSeen (history story) k m.0.seen

  abbrev pub Takes : (S → C) → (S → List (ℕ × E)) → Step (Option S) → Me (Option S) (View E C) → ℕ
      → Me (Option S) (View E C) → Type 0
  Takes constant history step m found n =
      (found ≡ 0 → Won constant history m n) × (found ≢ 0 → (n.0 ≡ m.0) × (n.1 ≡ m.1))

  -- the seat has then seen the history of the story in its hands
  abbrev pub Grows : (S → List (ℕ × E)) → Step (Option S) → Me (Option S) (View E C) → ℕ
      → Me (Option S) (View E C) → Type 0
  Grows history step m found n =
      (x : S) → m.1 ≡ (0, Some x) ∷ [] → (n.1 ≡ m.1) × (n.0 ≡ hold m.0 true (history x))

  -- the lock is given up, and the slot is at home
  abbrev pub Frees : Step (Option S) → Me (Option S) (View E C) → ℕ → Me (Option S) (View E C) →
      Type 0
  Frees step m found n = (n.1 ≡ []) × (n.0 ≡ hold m.0 false m.0.seen) × Tallied n.0

  -- what the lists of the last meeting have to do with each other
  abbrev pub Learns : Step (Option S) → Me (Option S) (View E C) → ℕ → Me (Option S) (View E C) →
      Type 0
  Learns step m found n = (n.0 ≡ m.0) × (n.1 ≡ m.1) × IsMet m.0.met × Tallied m.0

  -- a play of a story, and whether its history is longer by it
  pub record Played {Call Reply : Type 0} (constant : S → C) (history : S → List (ℕ × E))
      (number : Call → ℕ)
      (plays : C → List (ℕ × E) → Call → List (ℕ × E) → Call → Reply → Type 0)
      (before : S) (call : Call) (after : S) (call' : Call) (reply : Reply)
      (grew : Bool) : Type 0 where
    pub same : constant after ≡ constant before
    pub rule : plays (constant before) (history before) call (history after) call' reply
    pub fits : length (history after) < 2 ^ 64
    pub grown : GrownIf grew (number call) (history before) (history after)
