use Rattle.std.proofs.Common.{◌≡◌, true, ◌∷◌, Some, sym, ◌∙◌, ap, subst, IsSome}
use Rattle.std.specs.FinMap as map
use Rattle.virt_keys.proofs.BoardTree.{boards_of, finds, found_board, board_written, of_found}
use Rattle.virt_keys.proofs.BoardHistories.{told_after}
use Rattle.virt_keys.specs.Routes.Call.{Keymap}
use Rattle.virt_keys.specs.Boards.{Boards, Board, StandsFor}
use Rattle.virt_keys.proofs.boards.VKeys.keymap.Goals as goal

live : (c : goal.After-get_mut) → IsSome (map.get (boards_of c.self.inside.boards.entries) c.args.board)
live c = subst (λ (m : Boards). IsSome (map.get m c.args.board)) (sym c.self.view_is) c.requires.live

pub unwrap-requires : goal.unwrap-requires
unwrap-requires c =
    finds (λ x. x.now) c.self.inside.boards c.args.board c.get_mut.result c.get_mut.ensures.value (live c)

there : (c : goal.After-self-1) → map.get c.args.self.now c.args.board ≡ Some c.unwrap.result.now
there c =
    sym (ap (λ (m : Boards). map.get m c.args.board) c.self.view_is)
    ∙ found_board
    (λ x. x.now) c.self.inside.boards c.args.board c.get_mut.result c.unwrap.result c.get_mut.ensures.value
    c.unwrap.ensures

-- the boards with this one told
told : (c : goal.After-self-1)
    → boards_of (c.get_mut.follows.lender c.keymap.new.self).entries
    ≡ map.insert c.args.self.now c.args.board (record c.unwrap.result.now { has_keymap = true })
told c =
    board_written c.self.inside.boards
    (c.get_mut.follows.lender c.keymap.new.self) c.args.board c.unwrap.result.now c.keymap.new.self
    (c.get_mut.follows.holds c.keymap.new.self)
    (ap (λ (m : Boards). map.get m c.args.board) c.self.view_is ∙ there c)
    ∙ ap (λ (b : Board). map.insert (boards_of c.self.inside.boards.entries) c.args.board b) c.keymap.ensures
    ∙ ap (λ (m : Boards). map.insert m c.args.board (record c.unwrap.result.now { has_keymap = true })) c.self.view_is

pub returns-clause-now : goal.returns-clause-now
returns-clause-now c =
    of_found (λ (b : Board). boards_of (c.get_mut.follows.lender c.keymap.new.self).entries
    ≡ map.insert c.args.self.now c.args.board (record b { has_keymap = true }))
    _ c.unwrap.result.now (there c) (told c)

pub returns-clause-history : goal.returns-clause-history
returns-clause-history c calls s =
    subst (λ (m : Boards). StandsFor (Keymap c.args.board ∷ calls) m) (sym (told c))
    (told_after calls c.args.self.now c.args.board c.unwrap.result.now s (there c))
