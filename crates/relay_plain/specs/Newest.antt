-- The newest act of a history.
use Rattle.std.specs.Prelude.{List, [], ◌∷◌}
use Rattle.relay_model.specs.declared.act.Act.{Act}

-- what a definition says of the newest act and the acts before it, or another value where there is
-- no act
abbrev pub at_newest : {A : Type 0} → (Act → List Act → A) → A → List Act → A
at_newest says none [] = none
at_newest says none (act ∷ older) = says act older
