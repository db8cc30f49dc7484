use Rattle.std.proofs.Common.{rules, ◌≡◌, ◌∙◌, ap, sym, subst, refl, length, List, ◌∷◌, Option, Some, None}
use Rattle.broker_steps.specs.declared.limits.Limits.{Limits}
use Rattle.broker_core.specs.declared.letting_go.LetGo.{LetGo}
use Rattle.turn_lock.specs.Sights.{IsLegal}
use Rattle.hub_lock.specs.declared.call.Ask.TheVariants as asks
use Rattle.hub_lock.specs.declared.call.Answer.TheVariants as answers
use Rattle.hub_lock.specs.declared.call.Call.{Call}
use Rattle.hub_lock.specs.Passes.{PassSeat, Recorder, journal_seen, HasSeenLawful}
use Rattle.hub_lock.specs.Seats.{having_seen, sight_of}
use Rattle.hub_lock.specs.Plays.{Plays}
use Rattle.hub_lock.specs.Events.{pass_seat}
use Rattle.hub_lock.specs.Recording.{HasFront, Records, recorder, with_next, LegalHandOut}
use Rattle.hub_lock.proofs.TurnsCounted.{entries-after, lawful-after}
use Rattle.hub_lock.proofs.ShownCalls.{shown-legal, legal-hand-out, records-after}
use Rattle.hub_lock.proofs.EntriesHandedOut.{front-next, front-same, number-next}
use Rattle.hub_lock.proofs.hub.Hub.hand_out.Goals as goal
use Rattle.hub_lock.proofs.hub.Hub.hand_out.Goals.{After-play-answer}
use Rattle.hub_lock.proofs.hub.Hub.hand_out.Goals.at

module _ (g : _) (c : After-play-answer g) where
  abbrev limits : Limits
  limits = c.args.self.now.limits

  abbrev pass : Recorder
  pass = recorder (pass_seat c.pass.inside.seat) c.pass.inside.handed

  abbrev now : PassSeat
  now = pass_seat c.play-answer.new.seat

  abbrev call : Call
  call = record { number = c.number.result; ask = asks.HandOut; joins = c.call-1.given.0 }

  of : c.pass.inside.seat.constant ≡ Some limits
  of = ap (λ (p : Recorder). p.seat.constant) c.pass.view_is ∙ c.requires.own.1

  shown : IsLegal Plays (sight_of pass.seat) call now.seen c.play-answer.new.call c.play-answer.result
  shown = shown-legal c.pass.inside.seat call c.play-answer.new.seat.seen c.play-answer.new.call c.play-answer.result
      c.play-answer.ensures.legal

  is : now ≡ having_seen pass.seat now.seen
  is = ap pass_seat c.play-answer.ensures.seat

  entries : c.play-answer.result.entries ≡ length (journal_seen now)
  entries = entries-after limits pass.seat call now.seen c.play-answer.new.call c.play-answer.result shown of
      c.number.ensures tt now is

  lawful : HasSeenLawful now
  lawful = lawful-after limits pass.seat call now.seen c.play-answer.new.call c.play-answer.result shown of
      c.number.ensures tt now is

  module _ (r : Option LetGo) (told : c.play-answer.result.answer ≡ answers.HandedOut r) where
    legal : LegalHandOut limits pass now.seen r
    legal = legal-hand-out limits c.pass.inside.seat call c.play-answer.new.seat.seen c.play-answer.new.call
        c.play-answer.result c.play-answer.ensures.legal of c.pass.inside.handed c.pass.invariant.4 c.number.ensures r
        refl told

    records : Records c.play-answer.new.seat (with_next r c.pass.inside.handed)
    records = records-after limits c.pass.inside.seat call c.play-answer.new.seat.seen c.play-answer.new.call
        c.play-answer.result c.play-answer.ensures.legal of c.pass.inside.handed c.pass.invariant.4 c.number.ensures r
        refl told c.play-answer.new.seat c.play-answer.ensures.seat

    told-legal : LegalHandOut limits c.args.pass.now now.seen r
    told-legal = subst (λ (p : Recorder). LegalHandOut limits p now.seen r) c.pass.view_is legal

  front-none : c.play-answer.result.answer ≡ answers.HandedOut None → HasFront (recorder now c.pass.inside.handed)
  front-none told =
      subst (λ (s : PassSeat). HasFront (recorder s c.pass.inside.handed)) (sym is)
      (front-same limits pass now.seen _ (legal None told) of c.pass.invariant.3)

  front-some : (it : LetGo) → c.play-answer.result.answer ≡ answers.HandedOut (Some it)
      → HasFront (recorder now (it ∷ c.pass.inside.handed))
  front-some it told =
      subst (λ (s : PassSeat). HasFront (recorder s (it ∷ c.pass.inside.handed))) (sym is)
      (front-next limits pass now.seen it (legal (Some it) told) of c.pass.invariant.3)

pub invariant_of-pass : goal.invariant_of-pass
invariant_of-pass g c =
    let a = (at.invariant_of-pass g c).After-play-answer in
    let none : c.in-HandedOut.handed ≡ None = search rules in
    let told : c.play-answer.result.answer ≡ answers.HandedOut None = c.in-HandedOut.is ∙ ap answers.HandedOut none in
    (c.pass.invariant.0, entries g a, lawful g a, front-none g a told, records g a None told)

pub returns-in_err-next-clause-legal : goal.returns-in_err-next-clause-legal
returns-in_err-next-clause-legal g c =
    let a = (at.returns-in_err-next-clause-legal g c).After-play-answer in
    let none : c.in-HandedOut.handed ≡ None = search rules in
    let told : c.play-answer.result.answer ≡ answers.HandedOut None = c.in-HandedOut.is ∙ ap answers.HandedOut none in
    let same : c.from_residual.result ≡ None = search rules in
    subst (λ (r : Option LetGo). LegalHandOut c.args.self.now.limits c.args.pass.now (now g a).seen r) (sym same)
    (told-legal g a None told)

pub invariant_of-pass-2 : goal.invariant_of-pass-2
invariant_of-pass-2 g c =
    let a = (at.invariant_of-pass-2 g c).After-play-answer in
    let it : LetGo = c.in_ok-next.next in
    let some : c.in-HandedOut.handed ≡ Some it = search rules in
    let told : c.play-answer.result.answer ≡ answers.HandedOut (Some it) =
    c.in-HandedOut.is ∙ ap answers.HandedOut some in
    let more : c.with.result ≡ it ∷ c.pass.inside.handed =
    c.with.ensures ∙ ap (λ (l : List LetGo). it ∷ l) c.replace-before.ensures.value in (
      number-next (limits g a) (pass g a) (now g a).seen it (legal g a (Some it) told) ∙ sym (ap length more),
      entries g a,
      lawful g a,
      subst (λ (l : List LetGo). HasFront (recorder (now g a) l)) (sym more) (front-some g a it told),
      subst (λ (l : List LetGo). Records c.play-answer.new.seat l) (sym more) (records g a (Some it) told),
    )

pub returns-clause-legal : goal.returns-clause-legal
returns-clause-legal g c =
    let a = (at.returns-clause-legal g c).After-play-answer in
    let some : c.in-HandedOut.handed ≡ Some c.in_ok-next.next = search rules in
    told-legal g a (Some c.in_ok-next.next) (c.in-HandedOut.is ∙ ap answers.HandedOut some)
