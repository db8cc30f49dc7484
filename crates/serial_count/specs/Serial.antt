-- serials, and the dones that they name
use Rattle.std.specs.Prelude.{ℕ, zero, suc, ◌+◌, ◌-◌, ◌%◌, ◌^◌, ◌<◌, ◌==◌, nat_lt, Bool, if◌then◌else◌, Option, Some, None, IsSomeAnd}

-- of k dones, the greatest position from 1 to k that equals the serial modulo 2^32; a serial is
-- below 2^32
abbrev pub named : (k serial : ℕ) → Option ℕ
named zero serial = None
named (suc k) serial = (if suc k % 2 ^ 32 == serial then Some (suc k) else named k serial)

-- the serial names one of the last j of k dones
abbrev pub IsFresh : (k j serial : ℕ) → Type 0
IsFresh k j serial = IsSomeAnd (named k serial) (λ n. k - j < n)

-- the serial is that of one of the last `since` dones, by how many dones ago it was, counted modulo
-- 2^32
abbrev pub is_recent : (count since serial : ℕ) → Bool
is_recent count since serial = nat_lt ((count + (2 ^ 32 - serial)) % 2 ^ 32) since
