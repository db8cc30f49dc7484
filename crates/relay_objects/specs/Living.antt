-- What a contract sees of the live objects of a seat.
use Rattle.std.specs.Prelude.{ℕ, List}
use Rattle.relay_objects.specs.declared.object.Object.{Object}

-- the objects by rising label, how many more can be made with no memory, and a number above each
-- label
pub record Living : Type 0 where
  pub items : List Object
  pub room : ℕ
  pub bound : ℕ
