use Rattle.std.proofs.Common.{rules, ◌≡◌, ◌+◌, ◌≤◌, ◌∙◌, ap, sym, subst, refl, length, List, ℕ, false, Option, Some, None, arith}
use Rattle.std.specs.Prelude.{IsSome, IfNone, option_map}
use Rattle.std.proofs.lemmas.Option.{same_Some}
use Rattle.broker_steps.specs.declared.limits.Limits.{Limits}
use Rattle.broker_core.specs.declared.letting_go.LetGo.{LetGo}
use Rattle.turn_lock.specs.Pairs.{HasSeen, IsIn}
use Rattle.turn_lock.specs.Rule.{bit}
use Rattle.turn_lock.specs.Sights as sights
use Rattle.turn_lock.specs.Sights.{IsLegal}
use Rattle.hub_lock.specs.declared.call.Ask.TheVariants as asks
use Rattle.hub_lock.specs.declared.call.Answer.TheVariants as answers
use Rattle.hub_lock.specs.declared.call.Call.{Call}
use Rattle.hub_lock.specs.Passes.{PassSeat, Recorder, journal_seen, total_steps, total_bytes, HasSeenLawful}
use Rattle.hub_lock.specs.Seats.{IsTallied, after_split, having_seen, naming, sight_of, pass_with}
use Rattle.hub_lock.specs.Shown.{shown_sight}
use Rattle.hub_lock.specs.Plays.{Plays, is_made}
use Rattle.hub_lock.specs.Events.{EventSeat, RecordsByAnother, step_of, pass_seat, root_seat, named_in, tally_of}
use Rattle.hub_lock.specs.Noted.{note_of}
use Rattle.hub_lock.proofs.NobodyNamed.{nobody-named, unnamed-tally, named-after, before-unnamed, another-after}
use Rattle.hub_lock.specs.Recording.{HasFront, recorder, LegalLook}
use Rattle.hub_lock.proofs.TurnsCounted.{entries-after, lawful-after, total-after, total-bytes-after}
use Rattle.hub_lock.proofs.PassesSettled.{settled-after}
use Rattle.hub_lock.proofs.PairsLeftOut.{none-shown, tallied-shown}
use Rattle.hub_lock.proofs.ShownCalls.{shown-legal, named-look, named-some, named-tally}
use Rattle.hub_lock.proofs.hub.Hub.recorder.Goals as goal
use Rattle.hub_lock.proofs.hub.Hub.recorder.Goals.{After-play-answer}
use Rattle.hub_lock.proofs.hub.Hub.recorder.Goals.at

-- what the invariant of the root says of its seat
abbrev IsRoot : (steps bytes entries : ℕ) → EventSeat → Type 0
IsRoot steps bytes entries s =
    (s.number ≡ 0) × (steps ≡ total_steps (root_seat s)) × (bytes ≡ total_bytes (root_seat s))
    × (entries ≡ length (journal_seen (root_seat s))) × HasSeenLawful (root_seat s)

module _ (g : _) (c : After-play-answer g) where
  abbrev limits : Limits
  limits = c.args.self.now.limits

  abbrev was : PassSeat
  was = root_seat c.root.inside.seat

  -- the root after the call, but for whom it named by it
  abbrev with_same : EventSeat → PassSeat
  with_same s = pass_with (named_in c.root.inside.seat.seen) (shown_sight step_of s)

  abbrev now : PassSeat
  now = with_same c.play-answer.new.seat

  abbrev call : Call
  call = record { number = 0; ask = asks.Name (c.made.result + 1); joins = c.call-1.given.0 }

  of : was.constant ≡ Some limits
  of = ap (λ (s : PassSeat). s.constant) c.root.view_is ∙ c.requires.own.1

  shown : IsLegal Plays (sight_of was) call now.seen c.play-answer.new.call c.play-answer.result
  shown = shown-legal c.root.inside.seat call c.play-answer.new.seat.seen c.play-answer.new.call c.play-answer.result
      c.play-answer.ensures.legal

  is : now ≡ having_seen was now.seen
  is = ap with_same c.play-answer.ensures.seat

  zero : was.number ≡ 0
  zero = c.root.invariant.0

  first : now.number ≡ 0
  first = ap (λ (s : PassSeat). s.number) is ∙ zero

  tallied : IsTallied now
  tallied = tallied-shown step_of c.play-answer.new.seat (c.play-answer.ensures.tallied first)

  settled : (n : ℕ) → IsIn n was.taken → HasSeen now.seen n was.seen
  settled = settled-after was call now.seen c.play-answer.new.call c.play-answer.result shown
      (subst (λ n. IsIn n was.taken → ⊥) (sym zero) (subst (λ (s : PassSeat). IsIn 0 s.taken → ⊥) is tallied.apart))

  settled' : (n : ℕ) → IsIn n c.args.root.now.taken → HasSeen now.seen n c.args.root.now.seen
  settled' = subst (λ (s : PassSeat). (n : ℕ) → IsIn n s.taken → HasSeen now.seen n s.seen) c.root.view_is settled

  module _ (r : Option ℕ) (told : c.play-answer.result.answer ≡ answers.Named r) where
    look : LegalLook limits c.args.root.now now.seen
    look = subst (λ (s : PassSeat). LegalLook limits s now.seen) c.root.view_is
        (named-look limits c.root.inside.seat call c.play-answer.new.seat.seen c.play-answer.new.call
        c.play-answer.result c.play-answer.ensures.legal of (c.made.result + 1) r refl told)

    none : is_made c.play-answer.result.answer ≡ false
    none = ap is_made told

    root-is : IsRoot c.root.inside.steps c.root.inside.bytes c.play-answer.result.entries c.play-answer.new.seat
    root-is = (
      first,
      (let t = total-after limits was call now.seen c.play-answer.new.call c.play-answer.result shown of (sym zero) tt
          now is zero tallied in
          let b : bit (is_made c.play-answer.result.answer) ≡ 0 = ap bit none in
          let s = c.root.invariant.1 in omega arith),
      c.root.invariant.2 ∙ sym (total-bytes-after limits was call now.seen c.play-answer.new.call c.play-answer.result
          shown of (sym zero) tt now is zero tallied),
      entries-after limits was call now.seen c.play-answer.new.call c.play-answer.result shown of (sym zero) tt now is,
      lawful-after limits was call now.seen c.play-answer.new.call c.play-answer.result shown of (sym zero) tt now is,
    )

  unnamed : c.args.root.now.named ≡ None → tally_of c.root.inside.seat.seen ≡ None
  unnamed none = unnamed-tally c.root.inside.seat.seen (ap (λ (s : PassSeat). s.named) c.root.view_is ∙ none)

  nobody : c.args.root.now.next ≡ 1 → tally_of c.root.inside.seat.seen ≡ None
  nobody one = nobody-named c.root.inside.seat c.root.invariant.5
      (let n = ap (λ (s : PassSeat). s.next) c.root.view_is in omega (arith, n, one))

  another : c.play-answer.result.answer ≡ answers.Named None → RecordsByAnother c.play-answer.new.seat
  another told = subst RecordsByAnother (sym c.play-answer.ensures.seat)
      (another-after c.root.inside.seat call c.play-answer.new.seat.seen c.play-answer.new.call
      c.play-answer.result c.play-answer.ensures.legal zero c.root.invariant.5 (ap note_of told))

  -- it named nobody by the call
  same-named : c.play-answer.result.answer ≡ answers.Named None
      → root_seat c.play-answer.new.seat ≡ having_seen c.args.root.now now.seen
  same-named told =
      ap (λ n. pass_with n (shown_sight step_of c.play-answer.new.seat))
      (named-after c.root.inside.seat call c.play-answer.new.seat.seen c.play-answer.new.call
      c.play-answer.result c.play-answer.ensures.legal zero (ap note_of told))
      ∙ is ∙ ap (λ (s : PassSeat). having_seen s now.seen) c.root.view_is

  named : tally_of c.root.inside.seat.seen ≡ None → (r : Option ℕ) → c.play-answer.result.answer ≡ answers.Named r
      → IsSome r
  named none r told =
      named-some limits c.root.inside.seat call c.play-answer.new.seat.seen c.play-answer.new.call
      c.play-answer.result c.play-answer.ensures.legal of (c.made.result + 1) r refl told refl
      (before-unnamed c.root.inside.seat call c.play-answer.new.seat.seen c.play-answer.new.call
      c.play-answer.result c.play-answer.ensures.legal zero none)

  -- it named the next pass
  named-next : (x : ℕ) → c.play-answer.result.answer ≡ answers.Named (Some x)
      → tally_of c.play-answer.new.seat.seen ≡ Some (c.made.result + 1, 0)
  named-next x told = named-tally limits c.root.inside.seat call c.play-answer.new.seat.seen c.play-answer.new.call
      c.play-answer.result c.play-answer.ensures.legal of (c.made.result + 1) x refl refl told

  with-next : (x : ℕ) → c.play-answer.result.answer ≡ answers.Named (Some x)
      → root_seat c.play-answer.new.seat ≡ naming (having_seen c.args.root.now now.seen)
  with-next x told =
      ap (λ n. pass_with n (shown_sight step_of c.play-answer.new.seat))
      (ap (option_map (λ (t : ℕ × ℕ). t.0)) (named-next x told) ∙ ap (λ n. Some n) (sym c.made.ensures))
      ∙ ap (λ (s : EventSeat). pass_with (Some c.root.inside.seat.next) (shown_sight step_of s)) c.play-answer.ensures.seat
      ∙ ap (λ (s : PassSeat). naming (having_seen s now.seen)) c.root.view_is

pub invariant_of-root : goal.invariant_of-root
invariant_of-root g c =
    let a = (at.invariant_of-root g c).After-play-answer in
    let r = root-is g a c.in-Named.named c.in-Named.is in
    let none : c.in-Named.named ≡ None = search rules in
    (r.0, r.1, r.2, r.3, r.4, another g a (c.in-Named.is ∙ ap answers.Named none))

pub returns-in_err-_number-clause-first : goal.returns-in_err-_number-clause-first
returns-in_err-_number-clause-first g c one =
    let a = (at.returns-in_err-_number-clause-first g c).After-play-answer in
    let none : c.in-Named.named ≡ None = search rules in
    let some = named g a (nobody g a one) None (c.in-Named.is ∙ ap answers.Named none) in cc

pub returns-in_err-_number-clause-unnamed : goal.returns-in_err-_number-clause-unnamed
returns-in_err-_number-clause-unnamed g c nobody =
    let a = (at.returns-in_err-_number-clause-unnamed g c).After-play-answer in
    let none : c.in-Named.named ≡ None = search rules in
    let some = named g a (unnamed g a nobody) None (c.in-Named.is ∙ ap answers.Named none) in cc

pub returns-in_err-_number-clause-none : goal.returns-in_err-_number-clause-none
returns-in_err-_number-clause-none g c =
    let a = (at.returns-in_err-_number-clause-none g c).After-play-answer in
    let none : c.in-Named.named ≡ None = search rules in
    let nobody : c.from_residual.result ≡ None = search rules in
    subst (λ (r : Option Recorder). IfNone r (root_seat c.play-answer.new.seat ≡ having_seen c.args.root.now (now g a).seen)) (sym nobody)
    (same-named g a (c.in-Named.is ∙ ap answers.Named none))

pub returns-in_err-_number-clause-legal : goal.returns-in_err-_number-clause-legal
returns-in_err-_number-clause-legal g c =
    look g (at.returns-in_err-_number-clause-legal g c).After-play-answer c.in-Named.named c.in-Named.is

pub returns-in_err-_number-clause-settled : goal.returns-in_err-_number-clause-settled
returns-in_err-_number-clause-settled g c = settled' g (at.returns-in_err-_number-clause-settled g c).After-play-answer

pub invariant_of-result : goal.invariant_of-result
invariant_of-result g c =
    let a = (at.invariant_of-result g c).After-play-answer in
    let root = root-is g a c.in-Named.named c.in-Named.is in
    let right = c.split.ensures.right in
    let some : c.in-Named.named ≡ Some c.in_ok-_number._number = c.in_ok-_number.was in
    let named : tally_of c.play-answer.new.seat.seen ≡ Some (c.made.result + 1, 0) =
    named-next g a c.in_ok-_number._number (c.in-Named.is ∙ ap answers.Named some) in
    let number : c.split.result.number ≡ c.made.result + 1 =
    ap (λ (s : EventSeat). s.number) right ∙ ap (λ (s : EventSeat). s.next) c.play-answer.ensures.seat ∙ c.made.ensures
    in (
      sym (ap length c.new.ensures),
      root.3 ∙ sym (ap (λ (s : EventSeat). length (journal_seen (pass_seat s))) right),
      subst (λ (s : EventSeat). HasSeenLawful (pass_seat s)) (sym right) root.4,
      subst (λ (l : List LetGo). HasFront (recorder (pass_seat c.split.result) l)) (sym c.new.ensures) (λ other e. tt),
      record {
        tally = ap (λ (s : EventSeat). tally_of s.seen) right ∙ named ∙ ap (λ n. Some (n, 0)) (sym number)
            ∙ ap (λ (l : List LetGo). Some (c.split.result.number, length l)) (sym c.new.ensures);
        apart = none-shown step_of c.split.result.number c.split.result.seen c.split.ensures.fresh;
      },
    )

pub invariant_of-root-2 : goal.invariant_of-root-2
invariant_of-root-2 g c =
    let r = subst (IsRoot c.root.inside.steps c.root.inside.bytes c.play-answer.result.entries)
    (sym c.split.ensures.left)
    (root-is g (at.invariant_of-root-2 g c).After-play-answer c.in-Named.named c.in-Named.is) in
    let next : c.split.new.seat.next ≡ c.made.result + 1 + 1 =
    ap (λ (s : EventSeat). s.next) c.split.ensures.left
    ∙ ap (λ (s : EventSeat). s.next + 1) c.play-answer.ensures.seat ∙ ap (λ n. n + 1) c.made.ensures in
    let some : c.in-Named.named ≡ Some c.in_ok-_number._number = c.in_ok-_number.was in
    let a = (at.invariant_of-root-2 g c).After-play-answer in
    let named : tally_of c.play-answer.new.seat.seen ≡ Some (c.made.result + 1, 0) =
    named-next g a c.in_ok-_number._number (c.in-Named.is ∙ ap answers.Named some) in (
      r.0,
      r.1,
      r.2,
      r.3,
      r.4,
      λ t e.
          let is : Some (c.made.result + 1, 0) ≡ Some t =
          sym named ∙ ap (λ (s : EventSeat). tally_of s.seen) (sym c.split.ensures.left) ∙ e in
          let n = ap (λ (x : ℕ × ℕ). x.0) (same_Some (c.made.result + 1, 0) t is) in
          (omega (arith, n), omega (arith, n, next)),
    )

pub returns-clause-fresh : goal.returns-clause-fresh
returns-clause-fresh g c = none-shown step_of c.split.result.number c.split.result.seen c.split.ensures.fresh

pub returns-clause-legal : goal.returns-clause-legal
returns-clause-legal g c =
    subst (λ (s : EventSeat). LegalLook c.args.self.now.limits c.args.root.now (pass_seat s).seen)
    (sym c.split.ensures.left)
    (look g (at.returns-clause-legal g c).After-play-answer c.in-Named.named c.in-Named.is)

pub returns-clause-settled : goal.returns-clause-settled
returns-clause-settled g c =
    subst (λ (s : EventSeat). (n : ℕ) → IsIn n c.args.root.now.taken
    → HasSeen (pass_seat s).seen n c.args.root.now.seen) (sym c.split.ensures.left)
    (settled' g (at.returns-clause-settled g c).After-play-answer)

pub returns-clause-left : goal.returns-clause-left
returns-clause-left g c =
    let a = (at.returns-clause-left g c).After-play-answer in
    let some : c.in-Named.named ≡ Some c.in_ok-_number._number = c.in_ok-_number.was in
    let left : root_seat c.split.new.seat ≡ after_split (naming (having_seen c.args.root.now (now g a).seen)) =
    ap root_seat c.split.ensures.left
    ∙ ap after_split (with-next g a c.in_ok-_number._number (c.in-Named.is ∙ ap answers.Named some)) in
    left ∙ ap (λ h. after_split (naming (having_seen c.args.root.now h))) (sym (ap (λ (s : PassSeat). s.seen) left))
