-- How many bytes the texts of the events have that a seat hands out.
use Rattle.std.specs.Prelude.{◌≡◌, ◌≤◌, List, ◌∷◌, length, true}
use Rattle.std.specs.List.{AllByRecursion}
use Rattle.relay_model.specs.declared.act.Act.{Act}
use Rattle.c_relay.specs.Events.{Heard, heard}
use Rattle.c_relay.specs.Seated.{fits}

-- What the newest of acts hands out has texts of at most 4,083 bytes, where the texts of each are
-- such that a message can carry, as they are of each act that a seat takes (`Takes`).
abbrev pub HandedTextsFit : Type 0
HandedTextsFit =
    (act : Act) (log : List Act) → AllByRecursion (λ (a : Act). fits a ≡ true) (act ∷ log) →
    AllByRecursion (λ (h : Heard). length h.text ≤ 4083) (heard act log)
