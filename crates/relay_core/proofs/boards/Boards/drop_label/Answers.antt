use Rattle.std.proofs.Common.{sym, ◌∙◌}
use Rattle.relay_core.specs.Kept.{kept}
use Rattle.relay_core.proofs.LiveBoards.{lives_there, taken_at}
use Rattle.relay_core.proofs.boards.Boards.drop_label.Goals as goal

pub returns-then-lives : goal.returns-then-lives
returns-then-lives c =
    taken_at (kept c.args.self.now) c.drop_board.new.self c.args.label
    (lives_there (kept c.args.self.now) c.args.label (sym c.lives.ensures ∙ c.if-lives.true)).0
    c.drop_board.ensures.left
