use Rattle.std.proofs.Common.{not, ap, sym, ◌∙◌}
use Rattle.relay_model.specs.declared.act.Act.{Act}
use Rattle.relay_model.specs.Keys.{is_press}
use Rattle.relay_model.specs.Idle.{history, is_live}
use Rattle.relay_model.proofs.ActsOrIdle.{history_is}
use Rattle.virt_keys.specs.Boards.{takes_at}
use Rattle.kbd_grab.specs.Keyboard.{refused_at}
use Rattle.std.specs.FinMap as map
use Rattle.relay_core.specs.Kept.{Shown}
use Rattle.relay_core.specs.BoardKeys.{live_board}
use Rattle.relay_core.specs.Machine.{is_live_in}
use Rattle.relay_core.proofs.LookUpsFind.{live_is}
use Rattle.relay_core.proofs.LiveActs.{refused_is, takes_by, is_other}
use Rattle.relay_core.proofs.relay.Relay.is_live.Goals as goal

pub returns-in-Key : goal.returns-in-Key
returns-in-Key c = λ log h.
    ap not (c.refuses.ensures.now
    ∙ ap (λ (s : Shown). refused_at (map.get s.state.keys.down c.in-Key.key) (map.len s.state.keys.down)
    (is_press c.in-Key.state)) c.self.view_is
    ∙ refused_is c.args.self.now.state.keys (history log) c.in-Key.key c.in-Key.state (history_is log) h.state.keys_now)
    ∙ ap (λ (a : Act). is_live a (history log)) (sym c.in-Key.is)

pub returns-in-VKey : goal.returns-in-VKey
returns-in-VKey c = λ log h.
    c.takes.ensures
    ∙ ap (λ (s : Shown). takes_at (live_board s.boards c.in-VKey.board) c.in-VKey.key (is_press c.in-VKey.state))
    c.self.view_is
    ∙ takes_by (history log) c.in-VKey.board c.in-VKey.key c.in-VKey.state
    (live_board c.args.self.now.boards c.in-VKey.board) (history_is log)
    (h.boards.each c.in-VKey.board)
    ∙ ap (λ (a : Act). is_live a (history log)) (sym c.in-VKey.is)

pub returns-in_default : goal.returns-in_default
returns-in_default c = λ log h.
    c.is_live.ensures ∙ ap (λ (s : Shown). is_live_in c.args.act.now s.state) c.self.view_is
    ∙ live_is c.args.self.now.state (history log) c.args.act.now h.state
    (is_other c.args.act.now c.in_default.not-Key c.in_default.not-VKeymap c.in_default.not-VKey c.in_default.not-VMods)
