-- An input that is read whole.
use Rattle.std.specs.Prelude.{◌≡◌, ◌≢◌, ℕ, ◌-◌, ◌<◌, ◌≤◌, List, length, drop, get_or, Option, IfSome}
use Rattle.wio_core.specs.Lines.{LacksFeed}
use Rattle.program_run.specs.declared.status.Status.{Status}
use Rattle.program_run.specs.declared.status.Status.TheVariants as status
use Rattle.program_run.specs.Lines.{input_limit, taken}

-- so many of the bytes stand up to the last line feed, with it; none where there is no line feed
pub record IsEndOfLines (bytes : List ℕ) (n : ℕ) : Type 0 where
  pub within : n ≤ length bytes
  pub feed : 0 < n → get_or bytes (n - 1) 0 ≡ 10
  pub tail : LacksFeed (drop n bytes)

-- at most the limit was read, and all up to it unless a read failed or there was no memory
pub record ReadsWhole (left : Option (List ℕ)) (result : Status) (read : List ℕ) : Type 0 where
  pub within : length read ≤ input_limit
  pub all : result ≢ status.ReadFault → result ≢ status.NoMemory
      → IfSome left (λ bytes. read ≡ taken input_limit bytes)
