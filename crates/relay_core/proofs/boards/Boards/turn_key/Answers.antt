use Rattle.std.proofs.Common.{◌≡◌, true, Option, Some, IfSome, ap, sym, subst, ◌∙◌}
use Rattle.std.specs.Prelude.{if◌then◌else◌}
use Rattle.std.specs.FinMap as map
use Rattle.virt_keys.specs.Boards.{Board, turned}
use Rattle.relay_core.specs.Kept.{kept}
use Rattle.relay_core.specs.BoardKeys.{live_board, may_send, key_turned}
use Rattle.relay_core.proofs.LiveBoards.{sends_there, put_at}
use Rattle.relay_core.proofs.boards.Boards.turn_key.Goals as goal

pub returns-then-has_keymap-clause-after : goal.returns-then-has_keymap-clause-after
returns-then-has_keymap-clause-after c =
    let may : may_send (live_board (kept c.args.self.now) c.args.board) ≡ true =
    sym c.has_keymap.ensures ∙ c.if-has_keymap.true in
    let there = sends_there (kept c.args.self.now) c.args.board may in
    let after : Board = turned there.1.0 c.args.key c.args.pressed c.args.grab in
    put_at (kept c.args.self.now) c.key.new.self c.args.board there.1.0 after
    (key_turned c.args.key c.args.pressed c.args.grab) there.0 there.1.1
    (subst (λ (o : Option Board). IfSome o
    (λ b. c.key.new.self
    ≡ map.insert c.args.self.now.keys c.args.board (turned b c.args.key c.args.pressed c.args.grab)))
    there.1.1 c.key.ensures.keys)
    (ap (λ b. Some (if b then after else there.1.0)) there.1.2)
