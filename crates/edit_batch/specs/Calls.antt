-- The calls on a method's pending edits, the newest first, and what they say is pending.
use Rattle.std.specs.Prelude.{ℕ, ℤ, pos, List, [], ◌∷◌}

-- a request of zwp_input_method_v2 that sets a pending edit, or a reset of all of them; texts are
-- their bytes
pub data Call : Type 0 where
  String : (text : List ℕ) → Call
  Preedit : (text : List ℕ) (begin end : ℤ) → Call
  Delete : (before after : ℕ) → Call
  Reset : Call

-- a preedit with its cursors
pub record Composed : Type 0 where
  pub text : List ℕ
  pub begin : ℤ
  pub end : ℤ

-- what is pending of each kind
pub record LastEdits : Type 0 where
  pub deletion : ℕ × ℕ
  pub string : List ℕ
  pub preedit : Composed

-- the empty preedit, with both cursors at 0
abbrev pub no_preedit : Composed
no_preedit = record { text = []; begin = pos 0; end = pos 0 }

-- the bytes to delete before and after the cursor: those of the last deletion since the last reset,
-- else none
abbrev pub last_deletion : List Call → ℕ × ℕ
last_deletion [] = (0, 0)
last_deletion (Reset ∷ older) = (0, 0)
last_deletion (Delete before after ∷ older) = (before, after)
last_deletion (_ ∷ older) = last_deletion older

-- the last string since the last reset, else the empty one
abbrev pub last_string : List Call → List ℕ
last_string [] = []
last_string (Reset ∷ older) = []
last_string (String text ∷ older) = text
last_string (_ ∷ older) = last_string older

-- the last preedit since the last reset, else the empty one
abbrev pub last_preedit : List Call → Composed
last_preedit [] = no_preedit
last_preedit (Reset ∷ older) = no_preedit
last_preedit (Preedit text begin end ∷ older) = record { text = text; begin = begin; end = end }
last_preedit (_ ∷ older) = last_preedit older

-- the last edit of each kind since the last reset
abbrev pub last_edits : List Call → LastEdits
last_edits calls =
    record {
      deletion = last_deletion calls;
      string = last_string calls;
      preedit = last_preedit calls;
    }
