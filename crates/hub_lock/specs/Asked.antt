-- Who may ask what of the value behind the lock
use Rattle.std.specs.Prelude.{ℕ, ◌==◌, Bool, true}
use Rattle.hub_lock.specs.declared.call.Ask.{Ask}
use Rattle.hub_lock.specs.declared.call.Ask.TheVariants as asks

-- a join is asked for by the root alone, which has the number 0
abbrev pub joins_as_root : ℕ → Ask → Bool
joins_as_root n (asks.Join role reader) = n == 0
joins_as_root n _ = true
