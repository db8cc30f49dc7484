use Rattle.std.proofs.Common.{◌≡◌, Some, sym, ◌∙◌, ap, subst, IsSome}
use Rattle.std.specs.FinMap as map
use Rattle.virt_keys.proofs.BoardTree.{boards_of, finds, found_board, of_found}
use Rattle.virt_keys.proofs.BoardHistories.{mods_is}
use Rattle.virt_keys.specs.Boards.{Boards, Board, mods_routed}
use Rattle.virt_keys.proofs.boards.VKeys.mods.Goals as goal

live : (c : goal.After-get) → IsSome (map.get (boards_of c.self.inside.boards.entries) c.args.board)
live c = subst (λ (m : Boards). IsSome (map.get m c.args.board)) (sym c.self.view_is) c.requires.live

pub unwrap-requires : goal.unwrap-requires
unwrap-requires c = finds (λ x. x.now) c.self.inside.boards c.args.board c.get.result c.get.ensures.value (live c)

there : (c : goal.After-mods) → map.get c.args.self.now c.args.board ≡ Some c.unwrap.result.now
there c =
    sym (ap (λ (m : Boards). map.get m c.args.board) c.self.view_is)
    ∙ found_board
    (λ x. x.now) c.self.inside.boards c.args.board c.get.result c.unwrap.result c.get.ensures.value c.unwrap.ensures

pub returns-clause-now : goal.returns-clause-now
returns-clause-now c =
    of_found (λ (b : Board). c.mods.result ≡ mods_routed b c.args.grab) _ c.unwrap.result.now (there c) c.mods.ensures

pub returns-clause-route : goal.returns-clause-route
returns-clause-route c calls s =
    c.mods.ensures ∙ mods_is calls c.args.self.now c.args.board c.unwrap.result.now c.args.grab s (there c)
