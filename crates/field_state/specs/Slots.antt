-- What a set of slots keeps, and whether it has memory for a text.
use Rattle.std.specs.Prelude.{Bool}
use Rattle.field_state.specs.Calls.{State}

-- a set of values, and whether it has memory for each text that may be set
pub record Slots : Type 0 where
  pub state : State
  pub has_room : Bool
