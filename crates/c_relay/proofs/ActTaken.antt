-- What waits after an act that was taken.
use Rattle.std.proofs.Common.{◌≡◌, ℕ, ◌+◌, ◌≤◌, List, ◌++◌, length, map, ap, ◌∙◌, arith}
use Rattle.std.specs.List.{flat_map}
use Rattle.std.proofs.lemmas.List.{append_assoc}
use Rattle.relay_model.specs.declared.act.Act.{Act}
use Rattle.relay_model.specs.Told.{told}
use Rattle.relay_objects.specs.Reached.{Reached}
use Rattle.c_relay.specs.Events.{Heard, heard_of, heard, hidden_heard}
use Rattle.c_relay.specs.Hidden.{hidden}
use Rattle.c_relay.specs.Waiting.{Waiting, Queues, HasRoomFor}
use Rattle.c_relay.proofs.QueueAfterTells.{reached_heard, reached_places}

-- what the act tells, and then which popups it hides
pub heard_by_act : (act : Act) (log : List Act) (popups : ℕ) (start mid last : Waiting) →
    Reached Queues start (told act log) mid → HasRoomFor start (told act log) popups →
    (popups ≤ mid.places → last.heard ≡ mid.heard ++ map hidden_heard (hidden act log)) →
    last.heard ≡ start.heard ++ heard act log
heard_by_act act log popups start mid last reached room hides =
    let places : start.places ≤ mid.places + length (told act log) = reached_places (told act log) start mid reached in
    let enough : popups ≤ mid.places = omega (arith, room.0) in
    hides enough
    ∙ ap (λ (w : List Heard). w ++ map hidden_heard (hidden act log))
    (reached_heard (told act log) popups start mid reached room)
    ∙ append_assoc start.heard (flat_map heard_of (told act log)) (map hidden_heard (hidden act log))
