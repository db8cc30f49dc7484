-- An event, and the label that it is told to.
use Rattle.std.specs.Prelude.{ℕ}
use Rattle.relay_model.specs.declared.said.Told.{Told}
use Rattle.relay_model.specs.declared.said.Said.{Said}

abbrev pub to : ℕ → Said → Told
to label said = record { to = label; event = said }
