use Rattle.std.proofs.Common.{◌≡◌, ◌+◌, ◌++◌, true, ap, sym, subst, ◌∙◌, arith}
use Rattle.relay_model.specs.declared.act.Act.{Act}
use Rattle.relay_model.specs.Idle.{history, is_live}
use Rattle.relay_model.specs.Objects.{next}
use Rattle.relay_model.proofs.ActsOrIdle.{length_history}
use Rattle.relay_core.specs.Stands.{StandsFor}
use Rattle.c_relay.specs.Living.{living, is_over}
use Rattle.c_relay.specs.KeptPopups.{IsBefore, kept_popups}
use Rattle.c_relay.specs.Events.{heard}
use Rattle.c_relay.specs.Seated.{Seat, Takes, Counts}
use Rattle.c_relay.proofs.LiveHistory.{history_live}
use Rattle.c_relay.proofs.seat.RelaySeat.take.Goals as goal
use Rattle.c_relay.proofs.seat.RelaySeat.take.Goals.{in-Ok, in-Err}

pub returns-clause-takes : goal.returns-clause-takes
returns-clause-takes c = λ log waits s.
    let act : Act = c.args.act.now in
    let before : StandsFor c.self.inside.relay log =
    subst (λ (v : Seat). StandsFor v.relay log) (sym c.self.view_is) s.relay in
    let wait : c.self.inside.queue.heard ≡ waits = ap (λ (v : Seat). v.heard) c.self.view_is ∙ s.queue in
    let were : c.self.inside.popups.kept ≡ kept_popups (history log) =
    ap (λ (v : Seat). v.popups) c.self.view_is ∙ s.popups in
    let counted = c.acts-number.ensures.length log before in
    let long = length_history log in
    let number : c.acts-number.result + 1 ≡ next (history log) = omega (arith, counted, long) in
    let live : is_live act (history log) ≡ true = sym (c.is_live.ensures log before) ∙ c.if-not-is_live.false in
    let first : IsBefore c.self.inside.relay c.self.inside.popups.kept act (c.acts-number.result + 1) log =
    record { stands = before; were = were; live = live; numbered = number } in
    let census = c.play.new.census in
    let new : Seat = record {
      relay = c.play.new.relay;
      heard = c.play.new.queue.heard;
      limits = census.limits;
      living = census.living;
      popups = c.play.new.popups.kept;
    } in
    elim c.match-play.branch [
      | in-Ok w ↦
          subst (λ r. Takes new log waits act r) (sym w.result-is) (
            omega (arith, counted),
            live,
            sym c.fits.ensures ∙ c.if-not-fits.false,
            record {
              relay = w.in-Ok.ensures.stands log before;
              popups = w.in-Ok.ensures.kept log first;
              queue = w.in-Ok.ensures.told log first ∙ ap (λ h. h ++ heard act log) wait;
            },
          )
      | in-Err w ↦
          subst (λ r. Takes new log waits act r) (sym w.result-is)
          (record {
            relay = w.in-Err.ensures.stays log before;
            popups = w.in-Err.ensures.popups ∙ were;
            queue = w.in-Err.ensures.waits ∙ wait;
          })
    ]

pub returns-clause-counts : goal.returns-clause-counts
returns-clause-counts c = λ log waits s same.
    let act : Act = c.args.act.now in
    let before : StandsFor c.self.inside.relay log =
    subst (λ (v : Seat). StandsFor v.relay log) (sym c.self.view_is) s.relay in
    let was : c.self.inside.census.living ≡ living (history log) = ap (λ (v : Seat). v.living) c.self.view_is ∙ same in
    let census = c.play.new.census in
    let new : Seat = record {
      relay = c.play.new.relay;
      heard = c.play.new.queue.heard;
      limits = census.limits;
      living = census.living;
      popups = c.play.new.popups.kept;
    } in
    let counted = c.acts-number.ensures.length log before in
    let long = length_history log in
    let number : c.acts-number.result + 1 ≡ next (history log) = omega (arith, counted, long) in
    elim c.match-play.branch [
      | in-Ok w ↦
          (let live : is_live act (history log) ≡ true = sym (c.is_live.ensures log before) ∙ c.if-not-is_live.false in
          subst (λ r. Counts new log act r) (sym w.result-is) (
            ap (λ l. is_over l act (history log)) w.in-Ok.ensures.limits
                ∙ sym (c.is_over.ensures (history log) was number)
                ∙ c.if-is_over.false,
            w.in-Ok.ensures.counted (history log) was number ∙ ap living (sym (history_live act log live)),
          ))
      | in-Err w ↦
          subst (λ r. Counts new log act r) (sym w.result-is) (w.in-Err.ensures.living ∙ was)
    ]
