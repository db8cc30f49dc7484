-- Where steps lead, and whether they met a journal that is full for one of them, before which they
-- stopped.
use Rattle.std.specs.Prelude.{Bool, true, false, if◌then◌else◌}

pub record Ran (S : Type 0) : Type 0 where
  pub now : S
  pub is_full : Bool

abbrev pub went : {S : Type 0} → S → Ran S
went s = record { now = s; is_full = false }

abbrev pub halted : {S : Type 0} → S → Ran S
halted s = record { now = s; is_full = true }

-- what comes next, unless it stopped
infixl 10 ◌>>=◌
abbrev pub ◌>>=◌ : {S : Type 0} → Ran S → (S → Ran S) → Ran S
r >>= next = if r.is_full then r else next r.now
