use Rattle.std.proofs.Common.{◌∷◌, sym, ◌∙◌, ap, subst}
use Rattle.std.specs.FinMap as map
use Rattle.virt_keys.proofs.BoardTree.{boards_of, board_put}
use Rattle.virt_keys.proofs.BoardHistories.{made_after}
use Rattle.virt_keys.specs.Routes.Call.{Make}
use Rattle.virt_keys.specs.Boards.{Boards, Board, StandsFor, new_board}
use Rattle.virt_keys.proofs.boards.VKeys.make.Goals as goal

pub returns-in-Ok-clause-ok : goal.returns-in-Ok-clause-ok
returns-in-Ok-clause-ok c =
    board_put c.self.inside.boards c.insert.new.self c.args.board c.in_ok-made.made c.in-Ok.ensures.updates
    ∙ ap (λ (b : Board). map.insert (boards_of c.self.inside.boards.entries) c.args.board b) c.in_ok-made.ensures
    ∙ ap (λ (m : Boards). map.insert m c.args.board (new_board c.args.peer)) c.self.view_is

pub returns-in-Ok-clause-history : goal.returns-in-Ok-clause-history
returns-in-Ok-clause-history c calls s fresh =
    subst (λ (m : Boards). StandsFor (Make c.args.board c.args.peer ∷ calls) m) (sym (returns-in-Ok-clause-ok c))
    (made_after calls c.args.self.now c.args.board c.args.peer s fresh)
