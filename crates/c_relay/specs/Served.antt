-- What a seat handed out, over all of its calls.
use Rattle.std.specs.Prelude.{◌≡◌, ◌++◌, List, [], ◌∷◌}
use Rattle.relay_model.specs.declared.act.Act.{Act}
use Rattle.c_relay.specs.Events.{Heard, heard}
use Rattle.c_relay.specs.Seated.{Seat, Seated}

-- all that is heard of the acts, the newest first
abbrev pub all_heard : List Act → List Heard
all_heard [] = []
all_heard (act ∷ older) = all_heard older ++ heard act older

-- the seat stands for the acts, and what it handed out and what waits is all that is heard of them,
-- in order
pub record Served (seat : Seat) (log : List Act) (handed : List Heard) : Type 0 where
  pub waits : List Heard
  pub seated : Seated seat log waits
  pub whole : handed ++ waits ≡ all_heard log
