use Rattle.std.proofs.Common.{rules, ◌≡◌, ◌+◌, ◌≤◌, ◌++◌, ◌∙◌, ap, sym, subst, arith, length, true, false, ℕ, None}
use Rattle.std.specs.Prelude.{option_map}
use Rattle.broker_core.specs.Broker.{Broker}
use Rattle.turn_lock.specs.Pairs.{HasSeen, IsIn}
use Rattle.turn_lock.specs.Rule.{bit}
use Rattle.turn_lock.specs.Sights as sights
use Rattle.turn_lock.specs.Sights.{IsLegal}
use Rattle.hub_lock.specs.Passes.{PassSeat, total_steps, total_bytes, journal_seen, HasSeenLawful}
use Rattle.hub_lock.specs.Seats.{IsTallied, having_seen, sight_of, pass_with}
use Rattle.hub_lock.specs.Shown.{shown_sight}
use Rattle.hub_lock.specs.Plays.{MayAsk, Plays, is_made}
use Rattle.hub_lock.specs.Calls.{LegalAsk}
use Rattle.hub_lock.proofs.TurnsCounted.{legal, entries-after, lawful-after, total-after, total-bytes-after}
use Rattle.hub_lock.specs.Events.{EventSeat, RecordsByAnother, step_of, root_seat, named_in, tally_of}
use Rattle.hub_lock.specs.Noted.{Hands, note_of}
use Rattle.hub_lock.proofs.NobodyNamed.{root-quiet, nobody-named, unnamed-tally, named-after, another-after, hands-unnamed}
use Rattle.hub_lock.proofs.PassesSettled.{settled-after}
use Rattle.hub_lock.proofs.PairsLeftOut.{tallied-shown}
use Rattle.hub_lock.proofs.ShownCalls.{shown-legal}
use Rattle.hub_lock.proofs.hub.Hub.play_root.Goals as goal
use Rattle.hub_lock.proofs.hub.Hub.play_root.Goals.{After-play-answer}
use Rattle.hub_lock.proofs.hub.Hub.play_root.Goals.at

module _ (g : _) (c : After-play-answer g) where
  abbrev was : PassSeat
  was = c.args.root.now

  abbrev now : PassSeat
  now = root_seat c.play-answer.new.seat

  k : IsLegal Plays (sight_of was) c.args.call.now now.seen c.play-answer.new.call c.play-answer.result
  k = subst (λ
      (s : PassSeat). IsLegal Plays (sight_of s) c.args.call.now now.seen c.play-answer.new.call c.play-answer.result)
      c.root.view_is
      (shown-legal c.root.inside.seat c.args.call.now c.play-answer.new.seat.seen c.play-answer.new.call
      c.play-answer.result c.play-answer.ensures.legal)

  zero : was.number ≡ 0
  zero = sym (ap (λ (s : PassSeat). s.number) c.root.view_is) ∙ c.root.invariant.0

  number : c.args.call.now.number ≡ was.number
  number = c.requires.number ∙ sym zero

  may : MayAsk was.seen was.number c.args.call.now.ask
  may = subst (λ n. MayAsk was.seen n c.args.call.now.ask) (sym zero) c.requires.may

  told : LegalAsk c.args.self.now.limits was now.seen 0 c.args.call.now.ask
      c.play-answer.new.call.ask
      c.play-answer.result.answer
  told = subst (λ n. LegalAsk c.args.self.now.limits was now.seen n c.args.call.now.ask
      c.play-answer.new.call.ask c.play-answer.result.answer) zero
      (legal c.args.self.now.limits was c.args.call.now now.seen c.play-answer.new.call
      c.play-answer.result k c.requires.own.1 number may)

  quiet : note_of c.play-answer.result.answer ≡ None
  quiet = root-quiet c.args.self.now.limits (was.seen ++ told.rest) now.seen 0 c.args.call.now.ask
      c.play-answer.new.call.ask c.play-answer.result.answer c.requires.asks told.answer

  -- the lock's seat, having seen this
  abbrev seat : EventSeat
  seat = sights.having_seen c.root.inside.seat c.play-answer.new.seat.seen

  named : named_in c.play-answer.new.seat.seen ≡ named_in c.root.inside.seat.seen
  named = named-after c.root.inside.seat c.args.call.now c.play-answer.new.seat.seen c.play-answer.new.call
      c.play-answer.result c.play-answer.ensures.legal c.root.invariant.0 quiet

  is : now ≡ having_seen was now.seen
  is = ap root_seat c.play-answer.ensures.seat ∙ ap (λ n. pass_with n (shown_sight step_of seat)) named
      ∙ ap (λ (s : PassSeat). having_seen s now.seen) c.root.view_is

  tallied : IsTallied now
  tallied =
      tallied-shown step_of c.play-answer.new.seat
      (c.play-answer.ensures.tallied (ap (λ (s : PassSeat). s.number) is ∙ zero))

  steps : total_steps now ≡ c.root.inside.steps + bit (is_made c.play-answer.result.answer)
  steps =
      let a = total-after c.args.self.now.limits was c.args.call.now now.seen c.play-answer.new.call
      c.play-answer.result k c.requires.own.1 number may now is zero tallied in
      let b : c.root.inside.steps ≡ total_steps was = c.root.invariant.1 ∙ ap total_steps c.root.view_is in omega arith

  bytes : c.root.inside.bytes ≡ total_bytes now
  bytes = c.root.invariant.2 ∙ ap total_bytes c.root.view_is
      ∙ sym (total-bytes-after c.args.self.now.limits was c.args.call.now
      now.seen c.play-answer.new.call c.play-answer.result k c.requires.own.1 number may
      now is zero tallied)

  entries : c.play-answer.result.entries ≡ length (journal_seen now)
  entries = entries-after c.args.self.now.limits was c.args.call.now now.seen c.play-answer.new.call
      c.play-answer.result k c.requires.own.1 number may now is

  lawful : HasSeenLawful now
  lawful = lawful-after c.args.self.now.limits was c.args.call.now now.seen c.play-answer.new.call
      c.play-answer.result k c.requires.own.1 number may now is

  first : now.number ≡ 0
  first = ap (λ (s : PassSeat). s.number) is ∙ zero

  settled : (n : ℕ) → IsIn n was.taken → HasSeen now.seen n was.seen
  settled = settled-after was c.args.call.now now.seen c.play-answer.new.call c.play-answer.result k
      (subst (λ n. IsIn n was.taken → ⊥) (sym zero) (subst (λ (s : PassSeat). IsIn 0 s.taken → ⊥) is tallied.apart))

  nobody : was.next ≤ 1 → was.named ≡ None
  nobody few =
      sym (ap (λ (s : PassSeat). s.named) c.root.view_is)
      ∙ ap (option_map (λ (t : ℕ × ℕ). t.0)) (nobody-named c.root.inside.seat c.root.invariant.5
      (subst (λ (s : PassSeat). s.next ≤ 1) (sym c.root.view_is) few))

  another : RecordsByAnother c.play-answer.new.seat
  another = subst RecordsByAnother (sym c.play-answer.ensures.seat)
      (another-after c.root.inside.seat c.args.call.now c.play-answer.new.seat.seen c.play-answer.new.call
      c.play-answer.result c.play-answer.ensures.legal c.root.invariant.0 c.root.invariant.5 quiet)

  hands : was.named ≡ None → (b : Broker) × Hands 0 c.args.call.now.ask c.play-answer.result.answer b None
  hands none = hands-unnamed c.root.inside.seat c.args.call.now c.play-answer.new.seat.seen c.play-answer.new.call
      c.play-answer.result c.play-answer.ensures.legal c.root.invariant.0
      (unnamed-tally c.root.inside.seat.seen (ap (λ (s : PassSeat). s.named) c.root.view_is ∙ none)) c.requires.number

pub overflow_add-root : goal.overflow_add-root
overflow_add-root g c =
    let a = (at.overflow_add-root g c).After-play-answer in
    let s = steps g a in
    let few = (tallied g a).few in
    let made : is_made c.play-answer.result.answer ≡ true = search rules in
    let one = ap bit made in omega arith

pub invariant_of-root : goal.invariant_of-root
invariant_of-root g c =
    let a = (at.invariant_of-root g c).After-play-answer in
    let s = steps g a in
    let made : is_made c.play-answer.result.answer ≡ true = search rules in
    let one = ap bit made in (first g a, omega arith, bytes g a, entries g a, lawful g a, another g a)

pub invariant_of-root-else-is_made : goal.invariant_of-root-else-is_made
invariant_of-root-else-is_made g c =
    let a = (at.invariant_of-root-else-is_made g c).After-play-answer in
    let s = steps g a in
    let made : is_made c.play-answer.result.answer ≡ false = search rules in
    let none = ap bit made in (first g a, omega arith, bytes g a, entries g a, lawful g a, another g a)

pub returns-then-is_made-clause-legal : goal.returns-then-is_made-clause-legal
returns-then-is_made-clause-legal g c = told g (at.returns-then-is_made-clause-legal g c).After-play-answer

pub returns-else-is_made-clause-legal : goal.returns-else-is_made-clause-legal
returns-else-is_made-clause-legal g c = told g (at.returns-else-is_made-clause-legal g c).After-play-answer

pub returns-then-is_made-clause-settled : goal.returns-then-is_made-clause-settled
returns-then-is_made-clause-settled g c = settled g (at.returns-then-is_made-clause-settled g c).After-play-answer

pub returns-else-is_made-clause-settled : goal.returns-else-is_made-clause-settled
returns-else-is_made-clause-settled g c = settled g (at.returns-else-is_made-clause-settled g c).After-play-answer

pub returns-then-is_made-clause-tallied : goal.returns-then-is_made-clause-tallied
returns-then-is_made-clause-tallied g c = tallied g (at.returns-then-is_made-clause-tallied g c).After-play-answer

pub returns-else-is_made-clause-tallied : goal.returns-else-is_made-clause-tallied
returns-else-is_made-clause-tallied g c = tallied g (at.returns-else-is_made-clause-tallied g c).After-play-answer

pub returns-then-is_made-clause-unnamed : goal.returns-then-is_made-clause-unnamed
returns-then-is_made-clause-unnamed g c = hands g (at.returns-then-is_made-clause-unnamed g c).After-play-answer

pub returns-else-is_made-clause-unnamed : goal.returns-else-is_made-clause-unnamed
returns-else-is_made-clause-unnamed g c = hands g (at.returns-else-is_made-clause-unnamed g c).After-play-answer

pub returns-then-is_made-clause-first : goal.returns-then-is_made-clause-first
returns-then-is_made-clause-first g c = zero g (at.returns-then-is_made-clause-first g c).After-play-answer

pub returns-else-is_made-clause-first : goal.returns-else-is_made-clause-first
returns-else-is_made-clause-first g c = zero g (at.returns-else-is_made-clause-first g c).After-play-answer

pub returns-then-is_made-clause-nobody : goal.returns-then-is_made-clause-nobody
returns-then-is_made-clause-nobody g c = nobody g (at.returns-then-is_made-clause-nobody g c).After-play-answer

pub returns-else-is_made-clause-nobody : goal.returns-else-is_made-clause-nobody
returns-else-is_made-clause-nobody g c = nobody g (at.returns-else-is_made-clause-nobody g c).After-play-answer

pub returns-then-is_made-clause-root : goal.returns-then-is_made-clause-root
returns-then-is_made-clause-root g c = is g (at.returns-then-is_made-clause-root g c).After-play-answer

pub returns-else-is_made-clause-root : goal.returns-else-is_made-clause-root
returns-else-is_made-clause-root g c = is g (at.returns-else-is_made-clause-root g c).After-play-answer
