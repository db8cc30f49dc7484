-- The current state of the field that holds the seat.
use Rattle.std.specs.Prelude.{ℕ, ℤ, max, List, [], ◌∷◌, Bool, ◌&&◌, ◌==◌, nat_lt, if◌then◌else◌, Option, Some, None}
use Rattle.popup_place.specs.declared.geometry.Rect.{Rect}
use Rattle.relay_model.specs.declared.act.Act.{Act}
use Rattle.relay_model.specs.declared.act.Act.TheVariants.{Enable, Surround, Cause, Content, Cursor, Commit}
use Rattle.relay_model.specs.Objects.{next}
use Rattle.relay_model.specs.Hold.{hold_begun}

-- a surrounding text with its cursor and anchor
pub record Around : Type 0 where
  pub text : List ℕ
  pub cursor : ℤ
  pub anchor : ℤ

-- hints and purpose of a content type
pub record ContentType : Type 0 where
  pub hint : ℕ
  pub purpose : ℕ

-- the state of a field that a method is told
pub record State : Type 0 where
  pub surrounding : Option Around
  pub cause : ℕ
  pub content : ContentType
  pub rect : Option Rect

-- the state of a field that set nothing
abbrev pub initial : State
initial = record {
  surrounding = None;
  cause = 0;
  content = record { hint = 0; purpose = 0 };
  rect = None;
}

-- the last enable of f below the act `until`
abbrev pub last_enable : ℕ → List Act → ℕ → ℕ
last_enable until [] f = 0
last_enable until (Enable g ∷ older) f =
    (if nat_lt (next older) until && (g == f) then next older else last_enable until older f)
last_enable until (_ ∷ older) f = last_enable until older f

-- the last commit of f below the act `until`
abbrev pub last_commit : ℕ → List Act → ℕ → ℕ
last_commit until [] f = 0
last_commit until (Commit g ∷ older) f =
    (if nat_lt (next older) until && (g == f) then next older else last_commit until older f)
last_commit until (_ ∷ older) f = last_commit until older f

-- the act that comes next is one of f, past the act `from` and below the act `until`
abbrev pub between : ℕ → ℕ → List Act → ℕ → ℕ → Bool
between from until older g f = nat_lt from (next older) && nat_lt (next older) until && (g == f)

-- the last surrounding text that f set between two acts
abbrev pub last_surrounding : ℕ → ℕ → List Act → ℕ → Option Around
last_surrounding from until [] f = None
last_surrounding from until (Surround g text cursor anchor ∷ older) f =
    (if between from until older g f
    then Some (record { text = text; cursor = cursor; anchor = anchor })
    else last_surrounding from until older f)
last_surrounding from until (_ ∷ older) f = last_surrounding from until older f

-- the last cause that f set between two acts, or 0 (input_method)
abbrev pub last_cause : ℕ → ℕ → List Act → ℕ → ℕ
last_cause from until [] f = 0
last_cause from until (Cause g cause ∷ older) f =
    (if between from until older g f then cause else last_cause from until older f)
last_cause from until (_ ∷ older) f = last_cause from until older f

-- the last content type that f set between two acts, or 0 0 (none, normal)
abbrev pub last_content : ℕ → ℕ → List Act → ℕ → ContentType
last_content from until [] f = record { hint = 0; purpose = 0 }
last_content from until (Content g hint purpose ∷ older) f =
    (if between from until older g f then record { hint = hint; purpose = purpose }
    else last_content from until older f)
last_content from until (_ ∷ older) f = last_content from until older f

-- the last rectangle that f set between two acts
abbrev pub last_rect : ℕ → ℕ → List Act → ℕ → Option Rect
last_rect from until [] f = None
last_rect from until (Cursor g rect ∷ older) f =
    (if between from until older g f then Some rect else last_rect from until older f)
last_rect from until (_ ∷ older) f = last_rect from until older f

-- The current state of the holder h: what it last set between the last enable before its hold,
-- which resets everything, and its last commit, which applies it. The cause is that of the last
-- commit alone.
abbrev pub current : List Act → ℕ → State
current log h =
    let reset = last_enable (hold_begun log) log h in
    let applied = last_commit (next log) log h in
    record {
      surrounding = last_surrounding reset applied log h;
      cause = last_cause (max reset (last_commit applied log h)) applied log h;
      content = last_content reset applied log h;
      rect = last_rect reset applied log h;
    }
