-- A method as its user sees it: its table, whether it is active, the keys that wait, and the last
-- batch.
use Rattle.std.specs.Prelude.{◌≡◌, ℕ, Bool, true, false, List, [], ◌∷◌, ◌++◌, if◌then◌else◌}
use Rattle.compose_method.specs.Table.{Table, own_texts}
use Rattle.compose_method.specs.Segments.{typed, rest_of}
use Rattle.wl_proto.specs.declared.event.Event.{Event}
use Rattle.wl_proto.specs.declared.event.Event.TheVariants.{Activate, Deactivate}

pub record Typing : Type 0 where
  pub table : Table
  pub active : Bool
  pub rest : List ℕ
  pub string : List ℕ
  pub preedit : List ℕ

abbrev pub idle : Table → Typing
idle t = record { table = t; active = false; rest = []; string = []; preedit = [] }

-- a press is read behind the keys that wait, and ignored where the method isn't active
abbrev pub pressed : ℕ → Typing → Typing
pressed key m =
    if m.active
    then record m {
      rest = rest_of m.table (m.rest ++ key ∷ []);
      string = typed m.table (m.rest ++ key ∷ []);
      preedit = own_texts m.table (rest_of m.table (m.rest ++ key ∷ []));
    }
    else m

-- an activation and a deactivation empty what waits
abbrev pub after_event : Event → Typing → Typing
after_event Activate m = record m { active = true; rest = [] }
after_event Deactivate m = record m { active = false; rest = [] }
after_event _ m = m

-- the presses since the last activation are these
pub record IsAfter (m : Typing) (presses : List ℕ) : Type 0 where
  pub active : m.active ≡ true
  pub rest : m.rest ≡ rest_of m.table presses

-- the string goes on from what the presses typed to what they type with one more, and the preedit
-- is the own texts of the keys that wait then
pub record Continues (t : Table) (presses : List ℕ) (key : ℕ)
    (string preedit : List ℕ) : Type 0 where
  pub goes_on : typed t presses ++ string ≡ typed t (presses ++ key ∷ [])
  pub waits : preedit ≡ own_texts t (rest_of t (presses ++ key ∷ []))
