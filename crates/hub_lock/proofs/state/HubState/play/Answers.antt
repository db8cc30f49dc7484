use Rattle.std.proofs.Common.{ap, subst, ◌∙◌, length}
use Rattle.hub_lock.specs.Lawful.{Held}
use Rattle.hub_lock.proofs.PlaysKeepRule.{IsSound, plays-by}
use Rattle.hub_lock.proofs.state.HubState.play.Goals as goal

pub returns-clause-plays : goal.returns-clause-plays
returns-clause-plays c =
    let was : IsSound c.args.self.now = subst IsSound c.self.view_is
    (record { kept = c.self.invariant.0; shared = c.entries-before.ensures.shared }) in
    let now : IsSound c.answer-answer.new.self = subst IsSound c.self-2.view_is
    (record { kept = c.self-2.invariant.0; shared = c.entries.ensures.shared }) in
    plays-by c.args.self.now c.answer-answer.new.self c.args.call.now
    (record {
      number = c.args.call.now.number;
      ask = c.answer-answer.new.ask;
      joins = c.call-1.given.0;
    }) c.answer-answer.result
    c.new-rings.result
    c.answer-answer.new.rings c.entries.result was now c.answer-answer.ensures.limits c.answer-answer.ensures.answers
    (c.entries.ensures.number ∙ ap (λ (h : Held). length h.broker.journal) c.self-2.view_is) c.new-rings.ensures
    c.answer-answer.ensures.watched
