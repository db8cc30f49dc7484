use Rattle.std.proofs.Common.{◌≡◌, ◌+◌, ◌++◌, ◌≤◌, List, length, map, take, drop}
use Rattle.std.specs.List.{flat_map}
use Rattle.relay_model.specs.declared.act.Act.{Act}
use Rattle.relay_model.specs.Idle.{history}
use Rattle.relay_core.specs.Stands.{StandsFor}
use Rattle.c_relay.specs.Events.{hidden_heard}
use Rattle.c_relay.specs.KeptPopups.{turned, hides}
use Rattle.c_relay.proofs.popups.turn_each.Given as goal

abbrev pub invariant-loop-popup : goal.invariant-loop-popup
invariant-loop-popup l = record {
  turned : (log : List Act) → StandsFor l.relay log →
      l.popups ≡ map (turned (history log) l.turn) (take l.popup-index l.fn.popups) ++ drop l.popup-index l.fn.popups;
  told : (log : List Act) → StandsFor l.relay log → length l.fn.popups ≤ l.fn.queue.places →
      l.queue.heard
      ≡ l.fn.queue.heard
      ++ map hidden_heard (flat_map (hides (history log) l.turn) (take l.popup-index l.fn.popups));
  places : l.fn.queue.places ≤ l.queue.places + l.popup-index;
}
