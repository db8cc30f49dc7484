-- Acts without virtual keyboards: Idle in the place of each act of boards.
use Rattle.std.specs.Prelude.{List, [], ◌∷◌, Bool, true, false, if◌then◌else◌}
use Rattle.relay_model.specs.declared.act.Act.{Act}
use Rattle.relay_model.specs.declared.act.Act.TheVariants.{Drop, VBoard, VKeymap, VKey, VMods, Idle}
use Rattle.relay_model.specs.Objects.{is_board}
use Rattle.relay_model.specs.Idle.{history}

-- the act makes a board, comes from one, or drops one
abbrev pub is_of_boards : Act → List Act → Bool
is_of_boards (VBoard p) older = true
is_of_boards (VKeymap v keymap) older = true
is_of_boards (VKey v time key state) older = true
is_of_boards (VMods v mods) older = true
is_of_boards (Drop x) older = is_board older x
is_of_boards _ older = false

-- the act, or Idle in its place
abbrev pub erased : Act → List Act → Act
erased act older = (if is_of_boards act older then Idle else act)

-- a list of acts, the newest first, with Idle in the place of each act of boards
abbrev pub without_boards : List Act → List Act
without_boards [] = []
without_boards (act ∷ older) = erased act (history older) ∷ without_boards older
