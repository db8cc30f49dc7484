use Rattle.std.proofs.Common.{rules, ◌≡◌, ◌∙◌, ap, sym, subst, arith, Some}
use Rattle.broker_steps.specs.declared.step.Step.TheVariants as steps
use Rattle.hub_lock.specs.declared.call.Ask.TheVariants as asks
use Rattle.hub_lock.specs.declared.call.Answer.TheVariants as answers
use Rattle.hub_lock.specs.Passes.{PassSeat}
use Rattle.hub_lock.specs.Calls.{LegalAsk}
use Rattle.hub_lock.proofs.ReadersStay.{reader-stays}
use Rattle.hub_lock.proofs.LegalCalls.{reader-after, step-finds}
use Rattle.hub_lock.proofs.hub.Hub.submit_own.Goals as goal

pub invariant_of-pass : goal.invariant_of-pass
invariant_of-pass g c =
    let number = ap (λ (s : PassSeat). s.number) c.play_by.ensures.member in
    let bytes = c.in-Applied.ensures.bytes in
    let none = c.pass.invariant.1 in (
      reader-after c.args.self.now.limits c.pass.inside.member c.play_by.new.member.seen _ c.play_by.ensures.legal
          c.pass.inside.peer c.pass.inside.member.number c.pass.invariant.0 ∙ ap Some (sym number),
      omega arith,
    )

pub returns-clause-joined : goal.returns-clause-joined
returns-clause-joined g c nobody =
    let same : c.pass-inside.inside.0.1.0 ≡ c.pass.inside.peer = search rules in
    let k = subst
    (λ s. LegalAsk c.args.self.now.limits c.pass.inside.member c.play_by.new.member.seen c.pass.inside.member.number
    (asks.Apply s) c.play_by.new.call.ask (answers.Applied c.in-Applied.applied))
    (c.new.ensures ∙ ap (λ q. steps.Peer q c.args.step) same) c.in-Applied.ensures.legal in
    step-finds c.args.self.now.limits _ c.pass.inside.member.number c.pass.inside.peer c.args.step
    c.play_by.new.member.seen
    c.in-Applied.applied k.lawful
    (reader-stays c.pass.inside.member.seen k.rest c.pass.inside.peer c.pass.inside.member.number
    c.pass.invariant.0) k.answer nobody
