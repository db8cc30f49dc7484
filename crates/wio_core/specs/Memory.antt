-- What a contract sees of a source and of a sink in memory.
use Rattle.std.specs.Prelude.{ℕ, List}

-- a source: what it gave, what is left, the most bytes of a read, the numbers of the calls that
-- fail, and how many calls and faults it had
pub record SourceInMemory : Type 0 where
  pub given : List ℕ
  pub left : List ℕ
  pub chunk : ℕ
  pub fail : List ℕ
  pub calls : ℕ
  pub faults : ℕ

-- a sink: what it holds, how many bytes it has room for, the numbers of the calls that fail, and
-- how many calls and faults it had
pub record SinkInMemory : Type 0 where
  pub held : List ℕ
  pub room : ℕ
  pub fail : List ℕ
  pub calls : ℕ
  pub faults : ℕ
