-- Steps of the shared state: one, those of a peer's messages, and what a peer can take.
use Rattle.std.specs.Prelude.{ℕ, List, [], ◌∷◌, length, take, Bool, not, ◌==◌, nat_le, if◌then◌else◌, Option, Some, None}
use Rattle.relay_model.specs.declared.role.Role.{Role}
use Rattle.broker_model.specs.declared.journal.Entry.{Entry}
use Rattle.broker_model.specs.declared.journal.Entry.TheVariants as entries
use Rattle.broker_model.specs.Out.{Outgoing, stored}
use Rattle.broker_model.specs.Settle.{number_alive}
use Rattle.broker_model.specs.Limits.{is_full}
use Rattle.broker_model.specs.Stamps.{no_stamp}
use Rattle.broker_core.specs.Broker.{Broker, with_step}
use Rattle.broker_core.specs.Taking.{out_at, lives}
use Rattle.trial_run.specs.Ran.{Ran, went, halted, ◌>>=◌}
pub use Rattle.broker_model.specs.MessageEntries.{message_entry}

-- one step, and the ends that follow from it
unfoldable pub stepped : Entry → Broker → Ran Broker
stepped e b = if is_full b.limits b.journal e then halted b else went (with_step e no_stamp b)

-- a peer joins, unless 64 are alive
unfoldable pub joined : Role → Broker → Ran Broker
joined role b = if nat_le 64 (number_alive b.journal) then went b else stepped (entries.Join role) b

-- the messages of a peer, one a step, as long as it is alive
unfoldable pub messages_sent : ℕ → List (List ℕ) → Broker → Ran Broker
messages_sent q [] b = went b
messages_sent q (m ∷ ms) b =
    if lives b.journal q then stepped (message_entry q m) b >>= messages_sent q ms else went b

abbrev pub bytes_in : Option Outgoing → List ℕ
bytes_in None = []
bytes_in (Some out) = stored out

-- the bytes that are stored for the peer
abbrev pub stored_for : ℕ → Broker → List ℕ
stored_for q b = bytes_in (out_at b.limits.store b.journal q)

unfoldable pub has_stored : ℕ → Broker → Bool
has_stored q b = not (length (stored_for q b) == 0)

-- the bytes that it takes next: 4,096, or all where fewer are stored
unfoldable pub next_bytes : ℕ → Broker → List ℕ
next_bytes q b = take 4096 (stored_for q b)
