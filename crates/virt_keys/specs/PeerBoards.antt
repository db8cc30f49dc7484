-- what the end of a peer leaves of a board
use Rattle.std.specs.Prelude.{ℕ, ◌==◌, if◌then◌else◌, Option, Some, None}
use Rattle.virt_keys.specs.Boards.{Board}

-- the board, unless it is of the peer
abbrev pub unless_of : (peer : ℕ) → Option Board → Option Board
unless_of peer None = None
unless_of peer (Some board) = (if board.peer == peer then None else Some board)
