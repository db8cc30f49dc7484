-- Numbers of 32 bits.
use Rattle.std.specs.Prelude.{ℕ, ◌^◌, ◌<◌, ℤ, FitsSigned}
use Rattle.std.specs.Int.{w32}

-- a number of 32 bits
abbrev pub IsWord : ℕ → Type 0
IsWord n = n < 2 ^ 32

-- the same with a sign
abbrev pub IsInt : ℤ → Type 0
IsInt z = FitsSigned w32 z
