use Rattle.std.proofs.Common.{◌∷◌, sym, ◌∙◌, ap, subst}
use Rattle.std.specs.FinMap as map
use Rattle.virt_keys.proofs.BoardTree.{board_left}
use Rattle.virt_keys.proofs.BoardHistories.{dropped_after}
use Rattle.virt_keys.specs.Routes.Call.{Drop}
use Rattle.virt_keys.specs.Boards.{Boards, StandsFor}
use Rattle.virt_keys.proofs.boards.VKeys.drop_board.Goals as goal

pub returns-clause-left : goal.returns-clause-left
returns-clause-left c =
    board_left c.self.inside.boards c.remove.new.self c.args.board c.remove.ensures.updates
    ∙ ap (λ (m : Boards). map.remove m c.args.board) c.self.view_is

pub returns-clause-history : goal.returns-clause-history
returns-clause-history c calls s =
    subst (λ (m : Boards). StandsFor (Drop c.args.board ∷ calls) m) (sym (returns-clause-left c))
    (dropped_after calls c.args.self.now c.args.board s)
