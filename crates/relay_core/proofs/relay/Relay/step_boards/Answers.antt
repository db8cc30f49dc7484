use Rattle.std.proofs.Common.{◌≡◌, ◌+◌, arith, length, List, ap, sym, subst, ◌∷◌, ◌∙◌}
use Rattle.relay_model.specs.Idle.{cleaned, history}
use Rattle.relay_model.proofs.ActsOrIdle.{history_is}
use Rattle.relay_model.specs.declared.act.Act.{Act}
use Rattle.relay_core.specs.Kept.{Shown, state, kept}
use Rattle.relay_core.specs.Machine.{State, tells}
use Rattle.relay_core.specs.Machine.{after as machine_after}
use Rattle.relay_core.specs.BoardKeys.{Boards, sent_by, sent_told}
use Rattle.relay_objects.specs.Reached.{Reached}
use Rattle.relay_objects.proofs.TellsAppend.{reached_append}
use Rattle.relay_core.specs.BoardsStand.{BoardsStand}
use Rattle.relay_core.specs.Stands.{Stands}
use Rattle.relay_core.proofs.BoardsKept.{boards_after}
use Rattle.relay_core.proofs.BoardsTold.{all_told}
use Rattle.relay_core.proofs.NotOfBoards.{route_is_told}
use Rattle.relay_core.proofs.EveryActStands.{stands_after}
use Rattle.relay_core.proofs.relay.Relay.step_boards.Goals as goal

pub returns-clause-stands : goal.returns-clause-stands
returns-clause-stands g c = λ log h.
    let now : State = state c.self.inside.machine in
    let boards : Boards = kept c.self.inside.boards in
    let before : Stands now (history log) =
    subst (λ (s : State). Stands s (history log)) (sym (ap (λ (k : Shown). k.state) c.self.view_is)) h.state in
    let had : BoardsStand boards (history log) =
    subst (λ (b : Boards). BoardsStand b (history log))
    (sym (ap (λ (k : Shown). k.boards) c.self.view_is)) h.boards in
    record {
      state = subst (λ (s : State). Stands s (cleaned c.args.act.now (history log) ∷ history log))
          (sym c.turn-route.ensures.state)
          (stands_after now (history log) c.args.act.now (history_is log) before);
      boards = boards_after now boards (kept c.turn-sent.new.self) (history log) c.args.act.now
          (history_is log) before had c.turn-sent.ensures.after;
    }

-- the number of the act
number_is : (now after : State) (log : List Act) (act : Act) → Stands now log → after ≡ machine_after act now →
    Stands (machine_after act now) (cleaned act log ∷ log) → after.acts ≡ now.acts + 1
number_is now after log act h e k =
    let same : after.acts ≡ (machine_after act now).acts = ap (λ (s : State). s.acts) e in
    let more : (machine_after act now).acts ≡ length (cleaned act log ∷ log) = k.acts_now in
    let before : now.acts ≡ length log = h.acts_now in
    omega arith

pub returns-clause-told : goal.returns-clause-told
returns-clause-told g c = λ log h.
    let now : State = state c.self.inside.machine in
    let boards : Boards = kept c.self.inside.boards in
    let act : Act = c.args.act.now in
    let before : Stands now (history log) =
    subst (λ (s : State). Stands s (history log)) (sym (ap (λ (k : Shown). k.state) c.self.view_is)) h.state in
    let had : BoardsStand boards (history log) =
    subst (λ (b : Boards). BoardsStand b (history log))
    (sym (ap (λ (k : Shown). k.boards) c.self.view_is)) h.boards in
    let number : (state c.turn-route.new.self).acts ≡ now.acts + 1 =
    number_is now (state c.turn-route.new.self) (history log) act before c.turn-route.ensures.state
    (stands_after now (history log) act (history_is log) before) in
    let sent : sent_told act (state c.turn-route.new.self).acts c.turn-sent.result
    ≡ sent_told act (now.acts + 1) (sent_by act now boards) =
    ap (λ n. sent_told act n c.turn-sent.result) number ∙ ap (sent_told act (now.acts + 1)) c.turn-sent.ensures.sent in
    subst (λ list. Reached g.P.Post.may_follow c.args.post.now list c.tell_sent.new.post)
    (all_told now boards (history log) act (history_is log) before had)
    (reached_append g.P.Post.may_follow (tells act now)
    (sent_told act (now.acts + 1) (sent_by act now boards)) c.args.post.now c.turn-route.new.post c.tell_sent.new.post
    c.turn-route.ensures.told
    (subst (λ list. Reached g.P.Post.may_follow c.turn-route.new.post list c.tell_sent.new.post) sent
    c.tell_sent.ensures))

pub returns-clause-route : goal.returns-clause-route
returns-clause-route g c = λ log h.
    let kept_state : state c.self.inside.machine ≡ c.args.self.now.state = ap (λ (k : Shown). k.state) c.self.view_is in
    let before : Stands (state c.self.inside.machine) (history log) =
    subst (λ (s : State). Stands s (history log)) (sym kept_state) h.state in
    c.turn-route.ensures.route ∙ route_is_told (state c.self.inside.machine) log c.args.act.now before
