-- What the functions owe that C calls to see how a broker and its peers stand.
use Rattle.std.specs.Prelude.{◌≡◌, ℕ, ℤ, pos, length, Option, option_map}
use Rattle.relay_model.specs.Keys.{standing}
use Rattle.relay_model.specs.Idle.{history}
use Rattle.broker_model.specs.Limits.{number_counted, weight}
use Rattle.broker_model.specs.Resolve.{past_of, resolve}
use Rattle.broker_model.specs.Out.{stored}
use Rattle.broker_core.specs.Taking.{out_at, standing_of}
use Rattle.c_broker.specs.Seated.{Bytewise, IsReady}
use Rattle.c_library.specs.declared.broker_looks.Used.{Used}
use Rattle.c_library.specs.Codes.{standing_code, stored_code}
use Rattle.c_library.specs.Called.{Called, CalledOr, Asked}
use Rattle.c_library.specs.Shown.{label_or_0}

-- how a peer stands
abbrev pub standing_in : ℕ → Bytewise → ℤ
standing_in peer b = standing_code (standing_of b.broker.journal peer)

-- how many bytes are stored for a peer
abbrev pub stored_in : ℕ → Bytewise → ℤ
stored_in peer b = stored_code (option_map (λ out. length (stored out))
    (out_at b.broker.limits.store b.broker.journal peer))

-- how many peers joined
abbrev pub joined_in : Bytewise → ℕ
joined_in b = length (past_of b.broker.journal).joined

-- the label of the grab that stands, or 0
abbrev pub grab_in : Bytewise → ℤ
grab_in b = pos (label_or_0 (standing (history (resolve b.broker.journal))))

-- how much of the limits is used up
abbrev pub used_in : Bytewise → Used
used_in b = record {
  entries = number_counted b.broker.journal;
  weight = weight b.broker.journal;
}

-- the broker stays, and answers the lowest peer above a number for which bytes are stored, or 0
pub record Readies (after : ℕ) (old new : Bytewise) (result : ℤ) : Type 0 where
  pub same : new ≡ old
  pub peer : ℕ
  pub ready : IsReady old.broker after (joined_in old) peer
  pub is : result ≡ pos peer

-- the same of what C has
abbrev pub ReadyCalled : (after : ℕ) → Option Bytewise → Option Bytewise → ℤ → Type 0
ReadyCalled after = Called (λ old new result. Readies after old new result)

-- how much is used up is written, and the broker stays
abbrev pub UsedCalled : (was used : Used) → Option Bytewise → Option Bytewise → ℤ → Type 0
UsedCalled was used = CalledOr (used ≡ was)
    (λ old new result. (new ≡ old) × (used ≡ used_in old) × (result ≡ pos 1))
