-- A dictionary method as its user sees it: its table and its dictionary, whether it is active, the
-- code, and the last batch.
use Rattle.std.specs.Prelude.{ℕ, Bool, false, true, List, [], Option, Some, None, if◌then◌else◌}
use Rattle.compose_method.specs.Table.{Table, own_texts}
use Rattle.compose_method.specs.Typists.{Meanings}
use Rattle.wl_proto.specs.declared.event.Event.{Event}
use Rattle.wl_proto.specs.declared.event.Event.TheVariants.{Activate, Deactivate}
use Rattle.dict_method.specs.Dictionary.{Dictionary}
use Rattle.dict_method.specs.Presses.{Made, press_made}

pub record Spelling : Type 0 where
  pub table : Table
  pub dict : Dictionary
  pub active : Bool
  pub code : List ℕ
  pub string : List ℕ
  pub preedit : List ℕ

abbrev pub idle : Table → Dictionary → Spelling
idle t d = record { table = t; dict = d; active = false; code = []; string = []; preedit = [] }

-- what a press makes; nothing while the method isn't active
abbrev pub makes : ℕ → Spelling → Option Made
makes key m = if m.active then press_made m.table m.dict m.code key else None

-- the preedit has the own texts of the code's keys
abbrev pub after_made : Option Made → Spelling → Spelling
after_made None m = m
after_made (Some b) m =
    record m { code = b.code; string = b.string; preedit = own_texts m.table b.code }

abbrev pub pressed : ℕ → Spelling → Spelling
pressed key m = after_made (makes key m) m

-- string and preedit of the batch
abbrev pub batch_of : Table → Option Made → Option (List ℕ × List ℕ)
batch_of t None = None
batch_of t (Some b) = Some (b.string, own_texts t b.code)

abbrev pub gives : ℕ → Spelling → Option (List ℕ × List ℕ)
gives key m = batch_of m.table (makes key m)

-- an activation and a deactivation empty the code
abbrev pub after_event : Event → Spelling → Spelling
after_event Activate m = record m { active = true; code = [] }
after_event Deactivate m = record m { active = false; code = [] }
after_event _ m = m

abbrev pub spelling : Meanings Spelling
spelling = record { gives = gives; pressed = pressed; after_event = after_event }
