-- A history as the program grows it is the history of the definitions.
use Rattle.std.proofs.Common.{◌≡◌, List, [], ◌∷◌, ◌++◌, ap, refl}
use Rattle.std.specs.List.{flat_map}
use Rattle.relay_model.specs.declared.act.Act.{Act}
use Rattle.relay_model.specs.declared.said.Told.{Told}
use Rattle.relay_model.specs.Idle.{history}
use Rattle.relay_model.specs.Told.{told, told_each}
use Rattle.relay_plain.specs.Plain.{all_told, told_after}

told_from : (older acts : List Act) →
    told_after (history older) acts ≡ flat_map (λ (events : List Told). events) (told_each older acts)
told_from older [] = refl
told_from older (act ∷ acts) = ap (λ (rest : List Told). told act older ++ rest) (told_from (act ∷ older) acts)

pub told_after_history : (acts : List Act) → told_after [] acts ≡ all_told acts
told_after_history acts = told_from [] acts
