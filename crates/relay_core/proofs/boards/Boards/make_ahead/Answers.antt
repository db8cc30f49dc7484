use Rattle.virt_keys.specs.Boards.{new_board}
use Rattle.relay_core.specs.Kept.{kept}
use Rattle.relay_core.proofs.LiveBoards.{ahead_at, made_at}
use Rattle.relay_core.proofs.boards.Boards.make_ahead.Goals as goal

pub returns-clause-same : goal.returns-clause-same
returns-clause-same c =
    ahead_at (kept c.args.self.now) c.make.new.self c.forget_others.new.self.keys c.args.board (new_board c.args.peer)
    c.in_ok-make.ensures.ok c.forget_others.ensures.keys

pub returns-clause-made : goal.returns-clause-made
returns-clause-made c =
    made_at (kept c.args.self.now) c.make.new.self c.forget_others.new.self.keys c.args.board (new_board c.args.peer)
    c.in_ok-make.ensures.ok c.forget_others.ensures.keys
