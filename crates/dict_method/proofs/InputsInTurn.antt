-- A press and an event, after all that came before.
use Rattle.std.proofs.Common.{◌≡◌, ℕ, List, ◌∷◌, Option, Some, None, refl, sym, ◌∙◌, ap}
use Rattle.compose_method.specs.Table.{Table}
use Rattle.dict_method.specs.Dictionary.{Dictionary}
use Rattle.dict_method.specs.History.{Input, press, is_active, code_of, made_at, given, IsAfter}
use Rattle.dict_method.specs.Presses.{Made}
use Rattle.dict_method.specs.Spelling.{Spelling, makes, after_made, batch_of, pressed, gives}

makes_is : (t : Table) (d : Dictionary) (log : List Input) (m : Spelling) (key : ℕ) → IsAfter t d log m →
    makes key m ≡ made_at (is_active log) t d key (code_of t d log)
makes_is t d log m key h = rw (h.table, h.dict, h.active, h.code) refl

pub given_is : (t : Table) (d : Dictionary) (log : List Input) (m : Spelling) (key : ℕ) → IsAfter t d log m →
    gives key m ≡ given t d log key
given_is t d log m key h =
    ap (batch_of m.table) (makes_is t d log m key h)
    ∙ ap (λ table. batch_of table (made_at (is_active log) t d key (code_of t d log))) h.table

pub pressed_after : (t : Table) (d : Dictionary) (log : List Input) (m : Spelling) (key : ℕ) → IsAfter t d log m →
    IsAfter t d (press key ∷ log) (pressed key m)
pressed_after t d log m key h = by (makes key m) (sym (makes_is t d log m key h)) h
  where
    by : (o : Option Made) → made_at (is_active log) t d key (code_of t d log) ≡ o → IsAfter t d log m →
        IsAfter t d (press key ∷ log) (after_made o m)
    by None is h = record { table = h.table; dict = h.dict; active = h.active; code = rw is h.code }
    by (Some b) is h = record { table = h.table; dict = h.dict; active = h.active; code = rw is refl }
