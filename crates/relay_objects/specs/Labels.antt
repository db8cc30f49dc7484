-- Labels of objects: they rise, and a new one is above the others.
use Rattle.std.specs.Prelude.{ℕ, ◌<◌, List, [], ◌∷◌}
use Rattle.relay_objects.specs.declared.object.Object.{Object}
use Rattle.relay_objects.specs.Rising.{RisesBy}

-- the labels rise
abbrev pub Rises : List Object → Type 0
Rises os = RisesBy (λ (o : Object). o.label) 0 os

-- the label is above those of the list
abbrev pub IsNew : List Object → ℕ → Type 0
IsNew [] x = Unit {0}
IsNew (o ∷ os) x = (o.label < x) × IsNew os x
