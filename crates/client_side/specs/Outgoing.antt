-- What waits to be sent, and the room for more.
use Rattle.std.specs.Prelude.{ℕ, List}

pub record Outgoing : Type 0 where
  pub bytes : List ℕ
  pub room : ℕ
