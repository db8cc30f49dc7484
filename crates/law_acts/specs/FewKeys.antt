-- How many keys are down on a virtual keyboard.
use Rattle.std.specs.Prelude.{ℕ, ◌≤◌, List}
use Rattle.relay_model.specs.declared.act.Act.{Act}
use Rattle.relay_model.specs.Boards.{board_number}
use Rattle.relay_model.specs.Idle.{history}
use Rattle.broker_model.specs.declared.journal.Entry.{Entry}
use Rattle.broker_model.specs.Ids.{log_of}
use Rattle.broker_model.specs.Resolve.{past_of}

-- at most 64 keys are down on each board, whatever was pressed
abbrev pub BoardsHaveFewKeys : Type 0
BoardsHaveFewKeys = (acts : List Act) (v : ℕ) → board_number (history acts) v ≤ 64

-- so after each journal
abbrev pub JournalsHaveFewKeys : Type 0
JournalsHaveFewKeys = (journal : List Entry) (v : ℕ) → board_number (log_of (past_of journal)) v ≤ 64
