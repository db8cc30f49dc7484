use Rattle.std.proofs.Common.{◌≡◌, true, Option, IfSome, refl, sym, subst, ◌∙◌}
use Rattle.std.specs.Prelude.{is_some}
use Rattle.std.specs.FinMap as map
use Rattle.virt_keys.specs.Boards.{Board}
use Rattle.relay_core.specs.Kept.{kept}
use Rattle.relay_core.specs.BoardKeys.{live_board, with_keymap}
use Rattle.relay_core.proofs.LiveBoards.{lives_there, put_at}
use Rattle.relay_core.proofs.boards.Boards.give_keymap.Goals as goal

pub returns-then-lives : goal.returns-then-lives
returns-then-lives c =
    let lives : is_some (live_board (kept c.args.self.now) c.args.board) ≡ true =
    sym c.lives.ensures ∙ c.if-lives.true in
    let there = lives_there (kept c.args.self.now) c.args.board lives in
    put_at (kept c.args.self.now) c.keymap.new.self c.args.board there.1.0
    (record there.1.0 { has_keymap = true }) with_keymap there.0 there.1.1
    (subst (λ (o : Option Board). IfSome o
    (λ b. c.keymap.new.self ≡ map.insert c.args.self.now.keys c.args.board (record b { has_keymap = true }))) there.1.1
    c.keymap.ensures.now) refl
