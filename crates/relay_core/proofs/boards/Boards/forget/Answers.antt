use Rattle.relay_core.proofs.LiveBoards.{forgotten}
use Rattle.relay_core.proofs.boards.Boards.forget.Goals as goal

pub returns-then-contains-clause-keys : goal.returns-then-contains-clause-keys
returns-then-contains-clause-keys c =
    forgotten c.args.self.now.keys c.drop_board.new.self c.args.board c.drop_board.ensures.left
