-- What happens to a trial's field.
use Rattle.std.specs.Prelude.{ℕ}
use Rattle.trial_field.specs.Log.{Batch, Entry}

-- an edit of the field's own user, a batch with the serial of its done, an enter or a leave
pub data Happening : Type 0 where
  edited : Entry → Happening
  batch : Batch → ℕ → Happening
  entered : Happening
  left : Happening
