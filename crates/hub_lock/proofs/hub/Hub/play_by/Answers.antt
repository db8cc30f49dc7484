use Rattle.std.proofs.Common.{rules, ◌≡◌, ◌+◌, ◌∙◌, ap, subst, arith, length, true, false}
use Rattle.turn_lock.specs.Rule.{bit}
use Rattle.turn_lock.specs.Sights.{IsLegal}
use Rattle.hub_lock.specs.Passes.{PassSeat, steps_of, bytes_of, journal_seen, HasSeenLawful}
use Rattle.hub_lock.specs.Seats.{having_seen, sight_of}
use Rattle.hub_lock.specs.Plays.{Plays, is_made, bytes_made}
use Rattle.hub_lock.specs.Events.{step_of, pass_seat}
use Rattle.hub_lock.proofs.StepsCounted.{own-few}
use Rattle.hub_lock.proofs.PairsLeftOut.{shown-few}
use Rattle.hub_lock.proofs.ShownCalls.{shown-legal}
use Rattle.hub_lock.proofs.TurnsCounted.{legal, steps-after, bytes-after, entries-after, lawful-after}
use Rattle.hub_lock.proofs.hub.Hub.play_by.Goals as goal
use Rattle.hub_lock.proofs.hub.Hub.play_by.Goals.{After-play-answer}
use Rattle.hub_lock.proofs.hub.Hub.play_by.Goals.at

module _ (g : _) (c : After-play-answer g) where
  abbrev was : PassSeat
  was = c.args.member.now

  abbrev now : PassSeat
  now = pass_seat c.play-answer.new.seat

  k : IsLegal Plays (sight_of was) c.args.call.now now.seen c.play-answer.new.call c.play-answer.result
  k = subst (λ
      (s : PassSeat). IsLegal Plays (sight_of s) c.args.call.now now.seen c.play-answer.new.call c.play-answer.result)
      c.member.view_is
      (shown-legal c.member.inside.seat c.args.call.now c.play-answer.new.seat.seen c.play-answer.new.call
      c.play-answer.result c.play-answer.ensures.legal)

  is : now ≡ having_seen was now.seen
  is = ap pass_seat c.play-answer.ensures.seat ∙ ap (λ (s : PassSeat). having_seen s now.seen) c.member.view_is

  steps : steps_of now ≡ c.member.inside.steps + bit (is_made c.play-answer.result.answer)
  steps =
      let a = steps-after c.args.self.now.limits was c.args.call.now now.seen c.play-answer.new.call
      c.play-answer.result k c.requires.own.1 c.requires.number c.requires.may now is in
      let b : c.member.inside.steps ≡ steps_of was = c.member.invariant.0 ∙ ap steps_of c.member.view_is in omega arith

  bytes : bytes_of now ≡ bytes_of was + bytes_made c.play-answer.result.answer
  bytes = bytes-after c.args.self.now.limits was c.args.call.now now.seen c.play-answer.new.call
      c.play-answer.result k c.requires.own.1 c.requires.number c.requires.may now is

  entries : c.play-answer.result.entries ≡ length (journal_seen now)
  entries = entries-after c.args.self.now.limits was c.args.call.now now.seen c.play-answer.new.call
      c.play-answer.result k c.requires.own.1 c.requires.number c.requires.may now is

  lawful : HasSeenLawful now
  lawful = lawful-after c.args.self.now.limits was c.args.call.now now.seen c.play-answer.new.call
      c.play-answer.result k c.requires.own.1 c.requires.number c.requires.may now is

pub overflow_add-member : goal.overflow_add-member
overflow_add-member g c =
    let a = (at.overflow_add-member g c).After-play-answer in
    let s = steps g a in
    let few = own-few (now g a).number (now g a).seen in
    let shown = shown-few step_of c.play-answer.new.seat.seen in
    let fits = c.play-answer.ensures.fits in
    let made : is_made c.play-answer.result.answer ≡ true = search rules in
    let one = ap bit made in omega arith

pub invariant_of-member : goal.invariant_of-member
invariant_of-member g c =
    let a = (at.invariant_of-member g c).After-play-answer in
    let s = steps g a in
    let made : is_made c.play-answer.result.answer ≡ true = search rules in
    let one = ap bit made in (omega arith, entries g a, lawful g a)

pub invariant_of-member-else-is_made : goal.invariant_of-member-else-is_made
invariant_of-member-else-is_made g c =
    let a = (at.invariant_of-member-else-is_made g c).After-play-answer in
    let s = steps g a in
    let made : is_made c.play-answer.result.answer ≡ false = search rules in
    let none = ap bit made in (omega arith, entries g a, lawful g a)

pub returns-then-is_made-clause-legal : goal.returns-then-is_made-clause-legal
returns-then-is_made-clause-legal g c =
    let a = (at.returns-then-is_made-clause-legal g c).After-play-answer in
    legal c.args.self.now.limits (was g a) c.args.call.now (now g a).seen c.play-answer.new.call
    c.play-answer.result (k g a) c.requires.own.1 c.requires.number c.requires.may

pub returns-then-is_made-clause-bytes : goal.returns-then-is_made-clause-bytes
returns-then-is_made-clause-bytes g c = bytes g (at.returns-then-is_made-clause-bytes g c).After-play-answer

pub returns-else-is_made-clause-legal : goal.returns-else-is_made-clause-legal
returns-else-is_made-clause-legal g c =
    let a = (at.returns-else-is_made-clause-legal g c).After-play-answer in
    legal c.args.self.now.limits (was g a) c.args.call.now (now g a).seen c.play-answer.new.call
    c.play-answer.result (k g a) c.requires.own.1 c.requires.number c.requires.may

pub returns-else-is_made-clause-bytes : goal.returns-else-is_made-clause-bytes
returns-else-is_made-clause-bytes g c = bytes g (at.returns-else-is_made-clause-bytes g c).After-play-answer
