-- What whole messages at the front of a stream say, whatever follows them.
use Rattle.std.specs.Prelude.{◌≡◌, ℕ, ◌+◌, ◌≤◌, List, ◌++◌, length, drop}
use Rattle.std.specs.List.{AllByRecursion}
use Rattle.wl_wire.specs.Messages.{IsPartial, bad_size}
use Rattle.audit_fields.specs.declared.compare.Compared.{Compared}
use Rattle.audit_fields.specs.Heard.{Heard, heard, dones, IsWell}

-- the bytes are whole messages of good sizes, which say this and have so many dones
pub record IsPassed (front : List ℕ) (hs : List Heard) (n : ℕ) : Type 0 where
  pub says : (more : List ℕ) → heard (front ++ more) ≡ hs ++ heard more
  pub sized : (more : List ℕ) → bad_size (front ++ more) ≡ bad_size more
  pub counts : (more : List ℕ) → dones (front ++ more) ≡ n + dones more

-- so many of the bytes are such a front
pub record IsPast (bytes : List ℕ) (at : ℕ) (hs : List Heard) (n : ℕ) : Type 0 where
  pub within : at ≤ length bytes
  pub front : List ℕ
  pub is : bytes ≡ front ++ drop at bytes
  pub passed : IsPassed front hs n

-- so many of what is told say this alone
pub record Tells (told : List ℕ) (at : ℕ) (hs : List Heard) : Type 0 where
  pub count : ℕ
  pub past : IsPast told at hs count

-- the fronts of both say the same, and behind what was sent stands a part of a message
pub record IsCompared (told sent : List ℕ) (c : Compared) : Type 0 where
  pub hs : List Heard
  pub well : AllByRecursion IsWell hs
  pub sent-past : IsPast sent c.sent hs c.dones
  pub told-past : Tells told c.told hs
  pub part : IsPartial (drop c.sent sent)
