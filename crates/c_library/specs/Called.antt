-- What the functions owe that C calls for a broker, in the words of the safe calls.
use Rattle.std.specs.Prelude.{◌≡◌, ◌⊎◌, ℤ, pos, negsuc, [], Bool, true, false, Option, Some, None}
use Rattle.broker_steps.specs.declared.limits.Limits.{Limits}
use Rattle.broker_steps.specs.Ranges.{IsLimits}
use Rattle.broker_core.specs.Broker.{begun}
use Rattle.c_broker.specs.Ears.{nothing_heard}
use Rattle.c_broker.specs.Seated.{Bytewise}

-- the answer says whether it holds
abbrev pub Tells : Type 0 → Bool → Type 0
Tells Holds true = Holds
Tells Holds false = Holds → ⊥

-- What C had was called: none, which answers that it is closed, and then this is the same as
-- before. Or a broker, of which this is said.
abbrev pub CalledOr : (Same : Type 0) → (Bytewise → Bytewise → ℤ → Type 0) → Option Bytewise →
    Option Bytewise → ℤ → Type 0
CalledOr Same Says None new result = (new ≡ None) × (result ≡ negsuc 4) × Same
CalledOr Same Says (Some old) None result = ⊥
CalledOr Same Says (Some old) (Some new) result = Says old new result

-- what C had was called, and nothing of C's is written
abbrev pub Called : (Bytewise → Bytewise → ℤ → Type 0) → Option Bytewise → Option Bytewise → ℤ →
    Type 0
Called Says None new result = (new ≡ None) × (result ≡ negsuc 4)
Called Says (Some old) None result = ⊥
Called Says (Some old) (Some new) result = Says old new result

-- the broker stays as it was, and its answer is this
abbrev pub Asked : (Bytewise → ℤ) → Option Bytewise → Option Bytewise → ℤ → Type 0
Asked answer = Called (λ old new result. (new ≡ old) × (result ≡ answer old))

-- nobody joined, nothing of a peer's bytes is held, and nothing waits for the shell
abbrev pub new_broker : Limits → Bytewise
new_broker limits = record { broker = begun limits; held = []; ears = nothing_heard }

-- a new broker is open, or none, since a limit is out of its range or there is no memory
abbrev pub Opened : Limits → ℤ → Option Bytewise → Type 0
Opened limits result (Some made) =
    (result ≡ pos 1) × IsLimits limits × (made ≡ new_broker limits)
Opened limits result None =
    ((result ≡ negsuc 7) × (IsLimits limits → ⊥)) ⊎ ((result ≡ negsuc 0) × IsLimits limits)
