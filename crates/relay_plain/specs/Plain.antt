-- What a whole list of acts tells.
use Rattle.std.specs.Prelude.{List, [], ◌∷◌, ◌++◌}
use Rattle.std.specs.List.{flat_map}
use Rattle.relay_model.specs.declared.act.Act.{Act}
use Rattle.relay_model.specs.declared.said.Told.{Told}
use Rattle.relay_model.specs.Idle.{cleaned}
use Rattle.relay_model.specs.Told.{told_by, told_each}

-- what each act of a list tells after the acts before it, one after the other: told of all acts,
-- the oldest act first
abbrev pub all_told : List Act → List Told
all_told acts = flat_map (λ (events : List Told). events) (told_each [] acts)

-- what the acts of a list tell after a history
abbrev pub told_after : List Act → List Act → List Told
told_after past [] = []
told_after past (act ∷ acts) =
    told_by (cleaned act past) past ++ told_after (cleaned act past ∷ past) acts
