use Rattle.std.proofs.Common.{arith}
use Rattle.relay_model.specs.Idle.{history}
use Rattle.relay_objects.proofs.EachChanges.{set_mapped}
use Rattle.c_relay.specs.Events.{hidden_heard}
use Rattle.c_relay.specs.KeptPopups.{turned, hides}
use Rattle.c_relay.proofs.TurnsEach.{told_more}
use Rattle.c_relay.proofs.popups.turn_each.Goals as goal

pub loop-popup-preserved : goal.loop-popup-preserved
loop-popup-preserved c = record {
  turned = λ log h.
      rw (c.turn_one.ensures.turned log h)
      (set_mapped (turned (history log) c.args.turn) c.args.popups.now _ _ _ (c.loop-popup.invariant.turned log h)
      (omega arith));
  told = λ log h l.
      told_more (turned (history log) c.args.turn) (hides (history log) c.args.turn) hidden_heard c.args.popups.now
      c.loop-popup.popups c.loop-popup.popup-index _ c.args.queue.now.heard c.loop-popup.queue.heard
      c.turn_one.new.queue.heard (c.loop-popup.invariant.turned log h) (omega arith)
      (c.loop-popup.invariant.told log h l) (c.turn_one.ensures.told log h (omega (arith, l)));
  places = omega arith;
}
