use Rattle.std.proofs.Common.{ap, ◌++◌, ◌∙◌, arith}
use Rattle.std.specs.Prelude.{◌||◌}
use Rattle.std.specs.List.{list_any}
use Rattle.relay_model.specs.Told.{told}
use Rattle.c_relay.specs.Events.{heard}
use Rattle.c_relay.specs.KeptPopups.{tells_place}
use Rattle.c_relay.proofs.QueueAfterTells.{reached_placed}
use Rattle.c_relay.proofs.ActTaken.{heard_by_act}
use Rattle.c_relay.proofs.seat.play.Goals as goal

pub returns-clause-told : goal.returns-clause-told
returns-clause-told c = λ log h.
    let room = c.in_ok-reserve-3.ensures in
    let stood = room.stands log h.stands in
    let reached = c.step.ensures.told log stood in
    heard_by_act c.args.act.now log c.count.result c.reserve-3.new.queue c.step.new.post c.enter-2.new.queue reached (room.room log h.stands)
    (λ places. c.enter-2.ensures.told log (record {
      before = c.reserve-2.ensures.kept ∙ h.were;
      live = h.live;
      numbered = h.numbered;
      told = reached_placed (told c.args.act.now log) c.reserve-3.new.queue c.step.new.post reached
          ∙ ap (λ v. v || list_any tells_place (told c.args.act.now log)) room.placed;
      stands = c.step.ensures.stands log stood;
    }) (omega (arith, places, c.count.ensures)))
    ∙ ap (λ w. w ++ heard c.args.act.now log) room.heard

pub returns-clause-kept : goal.returns-clause-kept
returns-clause-kept c = λ log h.
    let room = c.in_ok-reserve-3.ensures in
    let stood = room.stands log h.stands in
    c.enter-2.ensures.kept log (record {
      before = c.reserve-2.ensures.kept ∙ h.were;
      live = h.live;
      numbered = h.numbered;
      told = reached_placed (told c.args.act.now log) c.reserve-3.new.queue c.step.new.post (c.step.ensures.told log stood)
          ∙ ap (λ v. v || list_any tells_place (told c.args.act.now log)) room.placed;
      stands = c.step.ensures.stands log stood;
    })
