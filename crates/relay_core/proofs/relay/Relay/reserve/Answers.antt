use Rattle.std.proofs.Common.{◌≡◌, ◌+◌, length, ap, sym, subst, ◌∙◌}
use Rattle.relay_model.specs.Idle.{history}
use Rattle.relay_core.specs.Kept.{Shown, state, kept}
use Rattle.relay_core.specs.BoardKeys.{Boards}
use Rattle.relay_core.specs.BoardsStand.{BoardsStand}
use Rattle.relay_core.specs.Machine.{State}
use Rattle.relay_core.specs.Stands.{Stands}
use Rattle.relay_core.proofs.BoardsKept.{boards_ahead}
use Rattle.relay_core.proofs.relay.Relay.reserve.Goals as goal

pub returns-in_ok-make_ahead-in-VBoard-clause-stands : goal.returns-in_ok-make_ahead-in-VBoard-clause-stands
returns-in_ok-make_ahead-in-VBoard-clause-stands c = λ log h.
    let same : state c.reserve_room.new.self ≡ c.args.self.now.state =
    c.reserve_room.ensures.same ∙ ap (λ (k : Shown). k.state) c.self.view_is in
    let label : c.reserve_room.new.self.acts + 1 ≡ length (history log) + 1 =
    ap (λ (s : State). s.acts + 1) same ∙ ap (λ n. n + 1) h.state.acts_now in
    let had : BoardsStand (kept c.self.inside.boards) (history log) =
    subst (λ (b : Boards). BoardsStand b (history log))
    (sym (ap (λ (k : Shown). k.boards) c.self.view_is)) h.boards in
    record {
      state = subst (λ (s : State). Stands s (history log)) (sym same) h.state;
      boards = boards_ahead (kept c.self.inside.boards) (kept c.make_ahead.new.self) (history log)
          (c.reserve_room.new.self.acts + 1) label had c.in_ok-make_ahead-in-VBoard.ensures.same;
    }
