-- Fields that the focus of a surface comes to or leaves.
use Rattle.std.specs.Prelude.{ℕ, Bool, true, false}
use Rattle.relay_model.specs.declared.said.Told.{Told}
use Rattle.relay_model.specs.declared.said.Said.{Said}
use Rattle.relay_model.specs.declared.said.Said.TheVariants as said
use Rattle.relay_model.specs.Told.{enter, leave}

-- what a field is told of the surface, by whether it is entered
abbrev pub crossed : Bool → ℕ → ℕ → Told
crossed true = enter
crossed false = leave

abbrev pub crossing : Bool → ℕ → Said
crossing true surface = said.Enter surface
crossing false surface = said.Leave surface
