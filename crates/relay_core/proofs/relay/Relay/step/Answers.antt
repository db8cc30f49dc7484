use Rattle.std.proofs.Common.{◌≡◌, false, ap, sym, subst, ◌∷◌, ◌∙◌}
use Rattle.relay_model.specs.Idle.{cleaned, history}
use Rattle.relay_model.proofs.ActsOrIdle.{history_is}
use Rattle.relay_model.specs.declared.act.Act.{Act}
use Rattle.relay_core.specs.Kept.{Shown, state, kept}
use Rattle.relay_core.specs.Machine.{State}
use Rattle.relay_core.specs.BoardKeys.{Boards, is_for_boards}
use Rattle.relay_objects.specs.Reached.{Reached}
use Rattle.relay_core.specs.BoardsStand.{BoardsStand}
use Rattle.relay_core.specs.Stands.{Stands}
use Rattle.relay_core.proofs.BoardsKept.{boards_after}
use Rattle.relay_core.proofs.BoardsTold.{all_told}
use Rattle.relay_core.proofs.NotOfBoards.{boards_stay, machine_tells, route_is_told}
use Rattle.relay_core.proofs.EveryActStands.{stands_after}
use Rattle.relay_core.proofs.relay.Relay.step.Goals as goal

pub returns-clause-stands : goal.returns-clause-stands
returns-clause-stands g c = λ log h.
    let now : State = state c.self.inside.machine in
    let boards : Boards = kept c.self.inside.boards in
    let before : Stands now (history log) =
    subst (λ (s : State). Stands s (history log)) (sym (ap (λ (k : Shown). k.state) c.self.view_is)) h.state in
    let had : BoardsStand boards (history log) =
    subst (λ (b : Boards). BoardsStand b (history log))
    (sym (ap (λ (k : Shown). k.boards) c.self.view_is)) h.boards in
    let other : is_for_boards c.args.act.now ≡ false = sym c.is_for_boards.ensures ∙ c.if-is_for_boards.false in
    record {
      state = subst (λ (s : State). Stands s (cleaned c.args.act.now (history log) ∷ history log))
          (sym c.turn.ensures.state)
          (stands_after now (history log) c.args.act.now (history_is log) before);
      boards = boards_after now boards boards (history log) c.args.act.now (history_is log) before had
          (λ v. boards_stay c.args.act.now now boards v other);
    }

pub returns-clause-told : goal.returns-clause-told
returns-clause-told g c = λ log h.
    let now : State = state c.self.inside.machine in
    let boards : Boards = kept c.self.inside.boards in
    let act : Act = c.args.act.now in
    let before : Stands now (history log) =
    subst (λ (s : State). Stands s (history log)) (sym (ap (λ (k : Shown). k.state) c.self.view_is)) h.state in
    let had : BoardsStand boards (history log) =
    subst (λ (b : Boards). BoardsStand b (history log))
    (sym (ap (λ (k : Shown). k.boards) c.self.view_is)) h.boards in
    let other : is_for_boards act ≡ false = sym c.is_for_boards.ensures ∙ c.if-is_for_boards.false in
    subst (λ list. Reached g.P.Post.may_follow c.args.post.now list c.turn.new.post)
    (machine_tells act now boards _ other (all_told now boards (history log) act (history_is log) before had))
    c.turn.ensures.told

pub returns-clause-route : goal.returns-clause-route
returns-clause-route g c = λ log h.
    let kept_state : state c.self.inside.machine ≡ c.args.self.now.state = ap (λ (k : Shown). k.state) c.self.view_is in
    let before : Stands (state c.self.inside.machine) (history log) =
    subst (λ (s : State). Stands s (history log)) (sym kept_state) h.state in
    c.turn.ensures.route ∙ route_is_told (state c.self.inside.machine) log c.args.act.now before
