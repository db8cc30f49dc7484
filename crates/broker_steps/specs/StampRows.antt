-- A stamp of its two numbers.
use Rattle.std.specs.Prelude.{ℕ}
use Rattle.broker_steps.specs.declared.stamp.Stamp.{Stamp}

abbrev pub stamp : ℕ → ℕ → Stamp
stamp moment author = record { moment = moment; author = author }
