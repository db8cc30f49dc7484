use Rattle.std.proofs.Common.{◌≡◌, ◌+◌, ◌∙◌, ap, sym, subst, arith, length, max, Some}
use Rattle.broker_steps.specs.declared.limits.Limits.{Limits}
use Rattle.turn_lock.specs.Sights as sights
use Rattle.hub_lock.specs.Lawful.{IsLawful}
use Rattle.hub_lock.specs.Passes.{PassSeat, steps_of, bytes_of, total_steps, total_bytes, journal_seen, HasSeenLawful}
use Rattle.hub_lock.specs.Seats.{IsMeeting, IsTallied, met_with, pass_with}
use Rattle.hub_lock.specs.Finished.{seat_of}
use Rattle.hub_lock.specs.Shown.{shown_sight}
use Rattle.hub_lock.specs.Events.{EventSeat, RecordsByAnother, step_of, pass_seat, root_seat, named_in}
use Rattle.hub_lock.proofs.NobodyNamed.{another-seen, named-seen}
use Rattle.hub_lock.proofs.PairsLeftOut.{met_shown, meeting-shown, tallied-shown}
use Rattle.hub_lock.proofs.MeetingsCounted.{met-steps, met-bytes, met-few, met-entries, seen-lawful}
use Rattle.hub_lock.proofs.hub.Hub.finish.Goals as goal
use Rattle.hub_lock.proofs.hub.Hub.finish.Goals.{After-meet}
use Rattle.hub_lock.proofs.hub.Hub.finish.Goals.at

module _ (c : After-meet) where
  abbrev root : PassSeat
  root = root_seat c.root.inside.seat

  abbrev pass : PassSeat
  pass = pass_seat c.member.inside.seat

  abbrev now : PassSeat
  now = root_seat c.meet.new.seat

  abbrev limits : Limits
  limits = c.args.self.now.limits

  back : pass ≡ seat_of c.args.pass
  back = c.member.view_is ∙ c.into_parts-member.ensures.member

  of : root.constant ≡ Some limits
  of = ap (λ (s : PassSeat). s.constant) c.root.view_is ∙ c.requires.own.1

  of' : pass.constant ≡ Some limits
  of' = ap (λ (s : PassSeat). s.constant) back ∙ c.requires.back.1

  mine : IsLawful limits root.seen
  mine = c.root.invariant.4 limits of

  theirs : IsLawful limits pass.seen
  theirs = c.member.invariant.2 limits of'

  -- at the lock
  abbrev joint : EventSeat
  joint = sights.met_with c.root.inside.seat c.member.inside.seat

  raw : sights.IsMeeting c.root.inside.seat c.member.inside.seat joint.seen
  raw = subst (λ (s : EventSeat). sights.IsMeeting c.root.inside.seat c.member.inside.seat s.seen) c.meet.ensures.met
      c.meet.ensures.both

  both : root_seat joint ≡ met_with root pass
  both =
      ap (λ n. pass_with n (shown_sight step_of joint)) (named-seen c.root.inside.seat joint.seen c.root.invariant.0 raw.mine)
      ∙ ap (pass_with (named_in c.root.inside.seat.seen)) (met_shown step_of c.root.inside.seat c.member.inside.seat raw)

  met : now ≡ met_with root pass
  met = ap root_seat c.meet.ensures.met ∙ both

  k : IsMeeting root pass (met_with root pass).seen
  k = subst (λ (s : PassSeat). IsMeeting root pass s.seen) both
      (meeting-shown step_of c.root.inside.seat c.member.inside.seat joint.seen raw)

  tallied : IsTallied now
  tallied = tallied-shown step_of c.meet.new.seat c.meet.ensures.tallied

  another : RecordsByAnother c.meet.new.seat
  another = subst RecordsByAnother (sym c.meet.ensures.met)
      (another-seen c.root.inside.seat joint.seen c.root.invariant.0 c.root.invariant.5 raw.mine)

  steps : c.root.inside.steps + c.member.inside.steps ≡ total_steps now
  steps =
      let m = ap total_steps met ∙ met-steps limits root pass c.root.invariant.0 of of' k mine theirs in
      let a = c.root.invariant.1 in
      let b = c.member.invariant.0 in omega arith

  bytes : c.root.inside.bytes + c.into_parts-member.result.1 ≡ total_bytes now
  bytes =
      let m = ap total_bytes met ∙ met-bytes limits root pass c.root.invariant.0 of of' k mine theirs in
      let a = c.root.invariant.2 in
      let b : c.into_parts-member.result.1 ≡ bytes_of pass =
      c.into_parts-member.ensures.bytes ∙ sym (ap bytes_of back) in omega arith

pub overflow_add-root : goal.overflow_add-root
overflow_add-root c =
    let a = (at.overflow_add-root c).After-meet in
    let s = steps a in
    let few = (tallied a).few in omega arith

pub overflow_add-root-2 : goal.overflow_add-root-2
overflow_add-root-2 c =
    let a = (at.overflow_add-root-2 c).After-meet in
    let s = bytes a in
    let same = ap total_bytes (met a) in
    let few = met-few (limits a) (root a) (pass a) c.root.invariant.0 (of a) (of' a) (k a) (mine a) (theirs a)
    (subst IsTallied (met a) (tallied a)) in omega arith

pub invariant_of-root : goal.invariant_of-root
invariant_of-root c =
    let a = (at.invariant_of-root c).After-meet in (
      ap (λ (s : PassSeat). s.number) (met a) ∙ c.root.invariant.0,
      steps a,
      bytes a,
      c.max-root-inside.ensures ∙ ap (λ n. max n c.member.inside.entries) c.root.invariant.3
          ∙ ap (max (length (journal_seen (root a)))) c.member.invariant.1
          ∙ met-entries (limits a) (root a) (pass a) c.root.invariant.0 (of a) (of' a) (k a) (mine a) (theirs a)
          ∙ sym (ap (λ (s : PassSeat). length (journal_seen s)) (met a)),
      subst HasSeenLawful (sym (met a))
          (seen-lawful (limits a) (root a) (pass a) c.root.invariant.0 (of a) (of' a) (k a) (mine a) (theirs a)),
      another a,
    )

pub returns-clause-met : goal.returns-clause-met
returns-clause-met c =
    let a = (at.returns-clause-met c).After-meet in
    met a ∙ ap (λ (s : PassSeat). met_with s (pass a)) c.root.view_is ∙ ap (met_with c.args.root.now) (back a)

pub returns-clause-both : goal.returns-clause-both
returns-clause-both c =
    let a = (at.returns-clause-both c).After-meet in
    subst (λ (s : PassSeat). IsMeeting s (seat_of c.args.pass) (now a).seen) c.root.view_is
    (subst (λ (s : PassSeat). IsMeeting (root a) s (now a).seen) (back a)
    (subst (λ (s : PassSeat). IsMeeting (root a) (pass a) s.seen) (sym (met a)) (k a)))

pub returns-clause-tallied : goal.returns-clause-tallied
returns-clause-tallied c = tallied (at.returns-clause-tallied c).After-meet

-- what is said of the pass inside is said of the pass, and of the root as it was
module _ (c : After-meet) (P : PassSeat → PassSeat → Type 0) where
  outside : P (root c) (pass c) → P c.args.root.now (seat_of c.args.pass)
  outside p =
      subst (λ (s : PassSeat). P s (seat_of c.args.pass)) c.root.view_is
      (subst (λ (s : PassSeat). P (root c) s) (back c) p)

pub returns-clause-steps : goal.returns-clause-steps
returns-clause-steps c =
    let a = (at.returns-clause-steps c).After-meet in
    outside a (λ r p. total_steps (now a) ≡ total_steps r + steps_of p)
    (ap total_steps (met a)
    ∙ met-steps (limits a) (root a) (pass a) c.root.invariant.0 (of a) (of' a) (k a) (mine a) (theirs a))

pub returns-clause-bytes : goal.returns-clause-bytes
returns-clause-bytes c =
    let a = (at.returns-clause-bytes c).After-meet in
    outside a (λ r p. total_bytes (now a) ≡ total_bytes r + bytes_of p)
    (ap total_bytes (met a)
    ∙ met-bytes (limits a) (root a) (pass a) c.root.invariant.0 (of a) (of' a) (k a) (mine a) (theirs a))
