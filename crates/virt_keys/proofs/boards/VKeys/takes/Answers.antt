use Rattle.std.proofs.Common.{Option, sym, ◌∙◌, ap}
use Rattle.std.specs.Option.{option_map}
use Rattle.std.specs.FinMap as map
use Rattle.virt_keys.proofs.BoardTree.{board_at}
use Rattle.virt_keys.proofs.BoardHistories.{takes_is}
use Rattle.virt_keys.specs.Boards.{Boards, Board, takes_at}
use Rattle.virt_keys.proofs.boards.VKeys.takes.Goals as goal

pub returns-in-Some-clause-now : goal.returns-in-Some-clause-now
returns-in-Some-clause-now c =
    c.takes.ensures ∙ ap (λ (o : Option Board). takes_at o c.args.key c.args.pressed)
    (sym (ap (option_map (λ b. b.now)) c.in-Some.is) ∙ c.get.ensures.value
    ∙ sym (board_at c.self.inside.boards c.args.board)
    ∙ ap (λ (m : Boards). map.get m c.args.board) c.self.view_is)

pub returns-in-Some-clause-history : goal.returns-in-Some-clause-history
returns-in-Some-clause-history c calls s =
    returns-in-Some-clause-now c ∙ takes_is calls c.args.self.now c.args.board c.args.key c.args.pressed s

pub returns-in-None-clause-now : goal.returns-in-None-clause-now
returns-in-None-clause-now c = ap (λ (o : Option Board). takes_at o c.args.key c.args.pressed)
    (sym (ap (option_map (λ b. b.now)) c.in-None.is) ∙ c.get.ensures.value
    ∙ sym (board_at c.self.inside.boards c.args.board)
    ∙ ap (λ (m : Boards). map.get m c.args.board) c.self.view_is)

pub returns-in-None-clause-history : goal.returns-in-None-clause-history
returns-in-None-clause-history c calls s =
    returns-in-None-clause-now c ∙ takes_is calls c.args.self.now c.args.board c.args.key c.args.pressed s
