-- A dictionary method by all presses and events that came to it, the newest first.
use Rattle.std.specs.Prelude.{◌≡◌, ℕ, Bool, true, false, List, [], ◌∷◌, Option, Some, None, if◌then◌else◌}
use Rattle.compose_method.specs.Table.{Table}
use Rattle.wl_proto.specs.declared.event.Event.{Event}
use Rattle.wl_proto.specs.declared.event.Event.TheVariants.{Activate, Deactivate}
use Rattle.dict_method.specs.Dictionary.{Dictionary}
use Rattle.dict_method.specs.Presses.{Made, press_made}
use Rattle.dict_method.specs.Spelling.{Spelling, batch_of}

pub data Input : Type 0 where
  press : ℕ → Input
  came : Event → Input

-- active after an activation, and no longer after a deactivation
abbrev pub is_active : List Input → Bool
is_active [] = false
is_active (came Activate ∷ older) = true
is_active (came Deactivate ∷ older) = false
is_active (came event ∷ older) = is_active older
is_active (press key ∷ older) = is_active older

abbrev pub code_after : Option Made → List ℕ → List ℕ
code_after None code = code
code_after (Some b) code = b.code

-- what a press makes behind a code
abbrev pub made_at : Bool → Table → Dictionary → ℕ → List ℕ → Option Made
made_at active t d key code = if active then press_made t d code key else None

-- the code: empty at first and after an activation or a deactivation, and what the presses since
-- then make of it
abbrev pub code_of : Table → Dictionary → List Input → List ℕ
code_of t d [] = []
code_of t d (came Activate ∷ older) = []
code_of t d (came Deactivate ∷ older) = []
code_of t d (came event ∷ older) = code_of t d older
code_of t d (press key ∷ older) =
    code_after (made_at (is_active older) t d key (code_of t d older)) (code_of t d older)

-- string and preedit of the batch that a press gives, or none
abbrev pub given : Table → Dictionary → List Input → ℕ → Option (List ℕ × List ℕ)
given t d log key = batch_of t (made_at (is_active log) t d key (code_of t d log))

-- this came to the method since it was made
pub record IsAfter (t : Table) (d : Dictionary) (log : List Input) (m : Spelling) : Type 0 where
  pub table : m.table ≡ t
  pub dict : m.dict ≡ d
  pub active : m.active ≡ is_active log
  pub code : m.code ≡ code_of t d log
