-- The board law: in a journal boards tell where their keys and modifiers go, and relay nothing.
use Rattle.std.specs.Prelude.{◌≡◌, ℕ, ◌+◌, List, [], ◌∷◌, length, Bool, true, false}
use Rattle.relay_model.specs.declared.act.Act.{Act}
use Rattle.relay_model.specs.declared.act.Act.TheVariants as acts
use Rattle.relay_model.specs.declared.said.Told.{Told}
use Rattle.relay_model.specs.Batch.{relayed}
use Rattle.relay_model.specs.Boards.{board_route, grab_for}
use Rattle.relay_model.specs.Idle.{history}
use Rattle.relay_model.specs.Told.{told, key_told, board_mods_told}
use Rattle.relay_model.specs.WithoutBoards.{without_boards}
use Rattle.broker_model.specs.declared.journal.Entry.{Entry}
use Rattle.broker_model.specs.Ids.{log_of}
use Rattle.broker_model.specs.Out.{act_at}
use Rattle.broker_model.specs.Resolve.{past_of, resolve}

-- the act makes a board, or is what one says
abbrev pub is_of_board : Act → Bool
is_of_board (acts.VBoard p) = true
is_of_board (acts.VKeymap v keymap) = true
is_of_board (acts.VKey v time key state) = true
is_of_board (acts.VMods v mods) = true
is_of_board _ = false

-- what such an act tells, as the n-th after those of the log: a key where its route leads,
-- modifiers where the board's grab is
abbrev pub board_told : Act → (n : ℕ) → List Act → List Told
board_told (acts.VKey v time key state) n log =
    key_told n time key state (board_route log v key state)
board_told (acts.VMods v mods) n log = board_mods_told n mods (grab_for log v)
board_told _ n log = []

-- so it is with the newest entry
abbrev pub TellsBoard : Entry → List Entry → Type 0
TellsBoard e older =
    is_of_board (act_at e older) ≡ true →
    told (act_at e older) (resolve older)
    ≡ board_told (act_at e older) (length older + 1) (log_of (past_of older))

-- and with each entry of a journal
abbrev pub BoardsTell : List Entry → Type 0
BoardsTell [] = Unit {0}
BoardsTell (e ∷ older) = TellsBoard e older × BoardsTell older

-- what is relayed to each field is the same with Idle in the place of each act of boards
abbrev pub BoardsRelayNothing : List Entry → Type 0
BoardsRelayNothing journal =
    (f : ℕ) → relayed (history (without_boards (resolve journal))) f
    ≡ relayed (history (resolve journal)) f

pub record AreApart (journal : List Entry) : Type 0 where
  pub tell : BoardsTell journal
  pub relay : BoardsRelayNothing journal

-- so it is in each journal
abbrev pub BoardsAreApart : Type 0
BoardsAreApart = (journal : List Entry) → AreApart journal
