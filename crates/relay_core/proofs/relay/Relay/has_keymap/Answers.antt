use Rattle.std.proofs.Common.{ap, ◌∙◌}
use Rattle.relay_model.specs.Idle.{history}
use Rattle.relay_core.specs.Kept.{Shown}
use Rattle.relay_core.specs.BoardKeys.{live_board, may_send}
use Rattle.relay_core.proofs.BoardsTold.{sends_by}
use Rattle.relay_core.proofs.relay.Relay.has_keymap.Goals as goal

pub returns : goal.returns
returns c = λ log h.
    c.has_keymap.ensures ∙
    ap (λ (k : Shown). may_send (live_board k.boards c.args.board)) c.self.view_is ∙
    sends_by (history log) c.args.board (live_board c.args.self.now.boards c.args.board) (h.boards.each c.args.board)
