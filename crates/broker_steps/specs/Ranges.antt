-- What the steps of a session and its limits hold.
use Rattle.std.specs.Prelude.{◌≡◌, ℕ, ℤ, pos, negsuc, ◌^◌, ◌%◌, ◌≤◌, Bool, false, nat_lt, List, length, IsTrue}
use Rattle.wl_wire.specs.Messages.{IsBad}
use Rattle.broker_steps.specs.declared.limits.Limits.{Limits}
use Rattle.broker_steps.specs.declared.step.Step.{Step}
use Rattle.broker_steps.specs.declared.step.Step.TheVariants as steps
use Rattle.broker_steps.specs.declared.step.PeerStep.{PeerStep}
use Rattle.broker_steps.specs.declared.step.PeerStep.TheVariants as peers
use Rattle.broker_steps.specs.declared.step.ShellStep.{ShellStep}
use Rattle.broker_steps.specs.declared.step.ShellStep.TheVariants as shells

-- the most bytes that one line gives or takes: those of one message
abbrev pub piece_limit : ℕ
piece_limit = 4096

-- the greatest limits that a session's header may set
abbrev pub entry_limit : ℕ
entry_limit = 4000000

abbrev pub store_limit : ℕ
store_limit = 1048576

abbrev pub weight_limit : ℕ
weight_limit = 536870912

-- what a session of form 1 may have: so many entries at most, and just this weight
abbrev pub form_1_entry_limit : ℕ
form_1_entry_limit = 1000000

abbrev pub form_1_weight : ℕ
form_1_weight = 134217728

-- the most tokens of one step, and the most that wait for a peer
abbrev pub token_limit : ℕ
token_limit = 256

-- a size: a number of 32 bits and a sign that isn't negative
abbrev pub is_size : ℤ → Bool
is_size (pos n) = nat_lt n (2 ^ 31)
is_size (negsuc n) = false

-- from 1 to so many
abbrev pub IsWithin : ℕ → ℕ → Type 0
IsWithin most n = (1 ≤ n) × (n ≤ most)

-- the limits are in their ranges
abbrev pub IsLimits : Limits → Type 0
IsLimits limits =
    IsWithin entry_limit limits.entries
    × IsWithin store_limit limits.store
    × IsWithin weight_limit limits.weight

-- a state of a key is 0 or 1, and sizes aren't negative
abbrev pub IsShellStep : ShellStep → Type 0
IsShellStep (shells.Area p i rect) = IsTrue (is_size rect.width) × IsTrue (is_size rect.height)
IsShellStep (shells.Screen size) = IsTrue (is_size size.width) × IsTrue (is_size size.height)
IsShellStep (shells.Key time key state) = state ≤ 1
IsShellStep _ = Unit {0}

-- the body of a message has at most 4,088 bytes, and a multiple of 4
abbrev pub IsBody : List ℕ → Type 0
IsBody body = (length body ≤ 4088) × (length body % 4 ≡ 0)

-- a message has the body of one, a bad header a bad size, and tokens are 1 to 256
abbrev pub IsPeerStep : PeerStep → Type 0
IsPeerStep (peers.Message id opcode body) = IsBody body
IsPeerStep (peers.BadSize head) = IsBad head
IsPeerStep (peers.Tokens tokens) = IsWithin token_limit (length tokens)
IsPeerStep peers.Gone = Unit {0}

-- The step holds only what a line can give.
abbrev pub IsStep : Step → Type 0
IsStep (steps.Join role) = Unit {0}
IsStep (steps.Peer p step) = IsPeerStep step
IsStep (steps.Shell step) = IsShellStep step
IsStep (steps.Take p n) = IsWithin piece_limit n
