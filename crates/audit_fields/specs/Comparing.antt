-- Two streams as far as they are compared.
use Rattle.std.specs.Prelude.{◌≡◌, ℕ, ◌+◌, List, ◌++◌}
use Rattle.std.specs.List.{AllByRecursion}
use Rattle.wl_wire.specs.Messages.{IsPartial}
use Rattle.audit_fields.specs.declared.comparison.HearEnd.{HearEnd}
use Rattle.audit_fields.specs.declared.comparison.HearEnd.TheVariants.{Unlike, NoMemory}
use Rattle.audit_fields.specs.Heard.{Heard, dones, IsWell, IsLike}
use Rattle.audit_fields.specs.FromField.{from_field}
use Rattle.audit_fields.specs.Passing.{IsPassed}

-- what was told and isn't heard yet, and the part of a message that was sent last
pub record Comparing : Type 0 where
  pub told : List ℕ
  pub begun : List ℕ

-- All that was told and all that was sent: what is gone of both says the same, nothing that was sent
-- is unlike, and of what was told no more is left than from its next field message on.
pub record Follows (told sent : List ℕ) (c : Comparing) : Type 0 where
  pub gone : List ℕ
  pub told_is : told ≡ gone ++ c.told
  pub passed : List ℕ
  pub sent_is : sent ≡ passed ++ c.begun
  pub hs : List Heard
  pub well : AllByRecursion IsWell hs
  pub number : ℕ
  pub goes : IsPassed gone hs number
  pub left : from_field c.told ≡ c.told
  pub count : ℕ
  pub passes : IsPassed passed hs count
  pub part : IsPartial c.begun

-- so many dones more were sent, and what was sent is like what is told
pub record IsHeard (told sent piece : List ℕ) (n : ℕ) (after : Comparing) : Type 0 where
  pub like : IsLike told (sent ++ piece)
  pub follows : Follows told (sent ++ piece) after
  pub counted : dones (sent ++ piece) ≡ dones sent + n

-- why a piece wasn't heard
abbrev pub IsUnheard : (told sent : List ℕ) → HearEnd → Type 0
IsUnheard told sent Unlike = IsLike told sent → ⊥
IsUnheard told sent NoMemory = Unit {0}
