use Rattle.std.proofs.Common.{arith, length, rules, ◌≡◌, ◌∙◌, ap, sym, subst}
use Rattle.turn_lock.specs.Sights.{IsLegal}
use Rattle.turn_lock.specs.Steps.{Played}
use Rattle.turn_lock.proofs.TurnIsLegal.{legal}
use Rattle.turn_lock.proofs.turn.Turn.turn.Goals as goal

pub returns-clause-legal : goal.returns-clause-legal
returns-clause-legal g c =
    let story = g.S.Story in
    let w = c.take.ensures.won in
    let p = c.play_held-reply.ensures.played in
    let call' = c.play_held-reply.new.call in
    let r = c.play_held-reply.result in
    let same : p.0 ≡ w.story = search rules in
    let played = subst
    (λ x. Played story.constant story.history story.number story.plays x c.args.call.now p.1 call' r.0 r.1) same p.4 in
    subst (λ s. IsLegal story.plays s c.args.call.now c.free.new.seat.me.0.seen call' r.0) c.seat.view_is
    (legal story.constant story.history story.number story.plays
    _ _ c.seat.inside.inner.table_id p.1 _ _ _ _ _ w played
    (c.requires.number ∙ sym (ap (λ s. s.number) c.seat.view_is))
    (ap (λ m. m.0.seen) (c.free.ensures.freed p.1 p.3)))

pub returns-clause-tallied : goal.returns-clause-tallied
returns-clause-tallied g c zero = c.free.ensures.tallied zero _

pub returns-clause-fits : goal.returns-clause-fits
returns-clause-fits g c =
    let p = c.play_held-reply.ensures.played in
    let e = ap (λ m. length m.0.seen) (c.free.ensures.freed p.1 p.3) in
    let few = p.4.fits in omega arith
