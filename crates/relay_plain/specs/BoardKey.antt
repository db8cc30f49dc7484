-- What a key of a board tells.
use Rattle.std.specs.Prelude.{List, []}
use Rattle.relay_model.specs.declared.act.Act.{Act}
use Rattle.relay_model.specs.declared.act.Act.TheVariants.{VKey}
use Rattle.relay_model.specs.declared.said.Told.{Told}
use Rattle.relay_model.specs.Objects.{next}
use Rattle.relay_model.specs.Boards.{board_route}
use Rattle.relay_model.specs.Told.{key_told}

-- a key of a board, told where it goes after these acts; no other act tells one
abbrev pub board_key_told : Act → List Act → List Told
board_key_told (VKey v time key state) older =
    key_told (next older) time key state (board_route older v key state)
board_key_told _ older = []
