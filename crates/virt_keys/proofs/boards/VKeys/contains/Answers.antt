use Rattle.std.proofs.Common.{is_some, sym, ◌∙◌, ap}
use Rattle.std.specs.FinMap as map
use Rattle.virt_keys.specs.Boards.{Boards}
use Rattle.virt_keys.proofs.BoardTree.{board_at}
use Rattle.virt_keys.proofs.PeerBoardsLeft.{some_mapped}
use Rattle.virt_keys.proofs.boards.VKeys.contains.Goals as goal

pub returns : goal.returns
returns c =
    c.is_some.ensures
    ∙ some_mapped (λ x. x.now) c.get.result
    ∙ ap is_some c.get.ensures.value
    ∙ ap is_some (sym (board_at c.self.inside.boards c.args.board))
    ∙ ap (λ (m : Boards). is_some (map.get m c.args.board)) c.self.view_is
