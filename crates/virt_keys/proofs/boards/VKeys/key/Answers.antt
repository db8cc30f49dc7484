use Rattle.std.proofs.Common.{◌≡◌, ◌∷◌, Some, None, sym, ◌∙◌, ap, subst, IsSome}
use Rattle.std.specs.FinMap as map
use Rattle.std.specs.Prelude.{◌↔◌, IsTrue}
use Rattle.std.specs.Option.{option_map}
use Rattle.kbd_grab.specs.declared.keyboard.Route.{Route}
use Rattle.kbd_grab.specs.declared.keyboard.Route.TheVariants.{TooMany, Nowhere}
use Rattle.virt_keys.proofs.BoardTree.{boards_of, finds, found_board, board_written, of_found, put_same}
use Rattle.virt_keys.proofs.TurnedKeys.{nowhere_where}
use Rattle.virt_keys.proofs.BoardHistories.{turned_after, route_is}
use Rattle.virt_keys.specs.Routes.{of_another}
use Rattle.virt_keys.specs.Routes.Call.{Key}
use Rattle.virt_keys.specs.Boards.{Boards, Board, StandsFor, routed, turned, IsElsewhere}
use Rattle.virt_keys.proofs.boards.VKeys.key.Goals as goal

live : (c : goal.After-get_mut) → IsSome (map.get (boards_of c.self.inside.boards.entries) c.args.board)
live c = subst (λ (m : Boards). IsSome (map.get m c.args.board)) (sym c.self.view_is) c.requires.live

pub unwrap-requires : goal.unwrap-requires
unwrap-requires c =
    finds (λ x. x.now) c.self.inside.boards c.args.board c.get_mut.result c.get_mut.ensures.value (live c)

there : (c : goal.After-self-1) → map.get c.args.self.now c.args.board ≡ Some c.unwrap.result.now
there c =
    sym (ap (λ (m : Boards). map.get m c.args.board) c.self.view_is)
    ∙ found_board
    (λ x. x.now) c.self.inside.boards c.args.board c.get_mut.result c.unwrap.result c.get_mut.ensures.value
    c.unwrap.ensures

-- the boards with this one after the call
written : (c : goal.After-self-1)
    → boards_of (c.get_mut.follows.lender c.key.new.self).entries
    ≡ map.insert c.args.self.now c.args.board c.key.new.self
written c =
    board_written c.self.inside.boards
    (c.get_mut.follows.lender c.key.new.self) c.args.board c.unwrap.result.now c.key.new.self
    (c.get_mut.follows.holds c.key.new.self)
    (ap (λ (m : Boards). map.get m c.args.board) c.self.view_is ∙ there c)
    ∙ ap (λ (m : Boards). map.insert m c.args.board c.key.new.self) c.self.view_is

is_turned : (c : goal.After-self-1)
    → boards_of (c.get_mut.follows.lender c.key.new.self).entries
    ≡ map.insert c.args.self.now c.args.board (turned c.unwrap.result.now c.args.key c.args.pressed c.args.grab)
is_turned c = written c ∙ ap (λ (b : Board). map.insert c.args.self.now c.args.board b) c.key.ensures.board

pub returns-clause-now : goal.returns-clause-now
returns-clause-now c =
    of_found (λ (b : Board). c.key.result ≡ routed b c.args.key c.args.pressed c.args.grab) _ c.unwrap.result.now
    (there c) c.key.ensures.route

pub returns-clause-route : goal.returns-clause-route
returns-clause-route c calls s =
    c.key.ensures.route
    ∙ route_is calls c.args.self.now c.args.board c.unwrap.result.now c.args.key c.args.pressed c.args.grab s (there c)

pub returns-clause-history : goal.returns-clause-history
returns-clause-history c calls s =
    subst (λ (m : Boards). StandsFor (Key c.args.board c.args.key c.args.pressed c.args.grab ∷ calls) m)
    (sym (is_turned c))
    (turned_after calls c.args.self.now c.args.board c.unwrap.result.now c.args.key c.args.pressed c.args.grab s
    (there c))

pub returns-clause-too_many : goal.returns-clause-too_many
returns-clause-too_many c =
    of_found (λ (b : Board). (c.key.result ≡ TooMany)
    ↔ (IsTrue c.args.pressed × (map.len b.down ≡ 64) × (map.get b.down c.args.key ≡ None)))
    _ c.unwrap.result.now (there c) c.key.ensures.too_many

pub returns-clause-nowhere : goal.returns-clause-nowhere
returns-clause-nowhere c =
    let IsAnswer : Route → Type 0 =
    λ r. (r ≡ Nowhere)
    ↔ IsElsewhere (map.get c.unwrap.result.now.down c.args.key) (option_map (λ g. g.0) c.args.grab) in
    of_found (λ (b : Board). (c.key.result ≡ Nowhere)
    ↔ IsElsewhere (map.get b.down c.args.key) (option_map (λ g. g.0) c.args.grab))
    _ c.unwrap.result.now (there c)
    (subst IsAnswer (sym c.key.ensures.route)
    (nowhere_where (map.get c.unwrap.result.now.down c.args.key)
    (of_another (Some c.unwrap.result.now.peer) c.args.grab)
    (option_map (λ g. g.0) c.args.grab) (map.len c.unwrap.result.now.down) c.args.pressed))

pub returns-clause-refused : goal.returns-clause-refused
returns-clause-refused c many =
    written c ∙ ap (λ (b : Board). map.insert c.args.self.now c.args.board b) (c.key.ensures.refused many)
    ∙ put_same c.args.self.now c.args.board c.unwrap.result.now (there c)

pub returns-clause-keys : goal.returns-clause-keys
returns-clause-keys c =
    of_found (λ (b : Board). boards_of (c.get_mut.follows.lender c.key.new.self).entries
    ≡ map.insert c.args.self.now c.args.board (turned b c.args.key c.args.pressed c.args.grab))
    _ c.unwrap.result.now (there c) (is_turned c)
