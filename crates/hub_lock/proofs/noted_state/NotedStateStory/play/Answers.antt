use Rattle.std.proofs.Common.{◌≡◌, ◌<◌, ◌≤◌, ◌∙◌, ap, subst, length, Bool, true, false, List, Option, arith}
use Rattle.std.specs.Prelude.{nat_lt}
use Rattle.std.proofs.lemmas.Bool.{ltb-true, ltb-false}
use Rattle.hub_lock.specs.declared.event.Mark.{Mark}
use Rattle.hub_lock.specs.Histories.{History}
use Rattle.hub_lock.specs.Lawful.{history_of}
use Rattle.hub_lock.specs.Events.{Tally, tally_of, mark_by, with_mark, events_with}
use Rattle.hub_lock.specs.Noted.{Noted, PlaysEvents, note_of, tally_in}
use Rattle.hub_lock.proofs.EventsMarked.{IsMarked, marked, steps-with}
use Rattle.hub_lock.proofs.ShownCalls.{plays-events}
use Rattle.hub_lock.proofs.noted_state.NotedStateStory.play.Goals as goal
use Rattle.hub_lock.proofs.noted_state.NotedStateStory.play.Goals.{After-with_mark}
use Rattle.hub_lock.proofs.noted_state.NotedStateStory.play.Goals.at

module _ (c : After-with_mark) where
  abbrev ms : List Mark
  ms = c.self.inside.marks

  abbrev before : History
  before = history_of c.self.inside.state.broker c.self.inside.state.readers

  abbrev after : History
  after = history_of c.play-reply.new.self.broker c.play-reply.new.self.readers

  abbrev was : Tally
  was = tally_in c.self.inside.state

  abbrev now : Tally
  now = tally_in c.play-reply.new.self

  abbrev longer : Bool
  longer = nat_lt c.steps-before.result c.steps.result

  abbrev mark : Option Mark
  mark = mark_by c.args.call.now.number (note_of c.play-reply.result.answer) longer

  more : longer ≡ true → length before < length after
  more e =
      let l = ltb-true c.steps-before.result c.steps.result e in
      let x = c.steps-before.ensures in
      let y = c.steps.ensures in omega arith

  few : longer ≡ false → length after ≤ length before
  few e =
      let l = ltb-false c.steps-before.result c.steps.result e in
      let x = c.steps-before.ensures in
      let y = c.steps.ensures in omega arith

  with-it : IsMarked c.args.call.now.number ms before mark after now
  with-it =
      let e = c.play-reply.ensures in
      marked c.args.call.now.number ms before after was now c.self.invariant.0 c.self.invariant.1
      (note_of c.play-reply.result.answer) longer more few e.grows e.same e.noted.tally e.noted.count

  marks-are : c.with_mark.result ≡ with_mark mark ms
  marks-are =
      c.with_mark.ensures
      ∙ ap (λ m. with_mark m c.replace-marks.result)
      (c.of-mark.ensures ∙ ap (λ x. mark_by c.args.call.now.number x longer) c.note.ensures)
      ∙ ap (with_mark mark) c.replace-marks.ensures.value

  tally : tally_of (events_with c.with_mark.result after) ≡ now
  tally = ap (λ x. tally_of (events_with x after)) marks-are ∙ with-it.tally

pub invariant_of-self : goal.invariant_of-self
invariant_of-self c =
    let a = (at.invariant_of-self c).After-with_mark in (
      tally a,
      ap (λ x. length (events_with x (after a))) (marks-are a) ∙ (with-it a).count,
    )

pub returns-clause-rule : goal.returns-clause-rule
returns-clause-rule c =
    let a = (at.returns-clause-rule c).After-with_mark in
    let e = c.play-reply.ensures in
    subst (λ (s : Noted). PlaysEvents s.held.broker.limits s.events c.args.call.now
    (events_with c.with_mark.result (after a)) c.play-reply.new.call c.play-reply.result) c.self.view_is
    (plays-events c.self.inside.state.broker.limits (events_with (ms a) (before a))
    (events_with c.with_mark.result (after a)) (before a) (after a) (was a) (now a) c.args.call.now
    c.play-reply.new.call c.play-reply.result (steps-with (ms a) (before a))
    (steps-with c.with_mark.result (after a)) c.self.invariant.0 (tally a) e.plays e.noted e.hands)
