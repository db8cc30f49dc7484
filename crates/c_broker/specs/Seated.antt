-- All peers of a seat by their bytes, as contracts see them.
use Rattle.std.specs.Prelude.{◌≡◌, ◌⊎◌, ℕ, ◌<◌, ◌≤◌, List, [], ◌∷◌, ◌++◌, length, nat_eq, cond, Option, Some, None, Result, Ok, Err}
use Rattle.std.specs.Map.{lookup}
use Rattle.wl_wire.specs.Streams.{Assembly, begun}
use Rattle.relay_model.specs.declared.act.EndCause.TheVariants.{Gone}
use Rattle.broker_steps.specs.declared.stamp.Stamp.{Stamp}
use Rattle.broker_steps.specs.declared.step.Step.TheVariants as steps
use Rattle.broker_steps.specs.declared.step.PeerStep.TheVariants as peers
use Rattle.broker_model.specs.declared.journal.Entry.{Entry}
use Rattle.broker_model.specs.declared.journal.Entry.TheVariants as entries
use Rattle.broker_model.specs.Out.{Outgoing, stored}
use Rattle.broker_core.specs.declared.answers.Refused.{Refused}
use Rattle.broker_core.specs.declared.answers.Refused.TheVariants as refused
use Rattle.broker_core.specs.declared.taking.Standing.{Standing}
use Rattle.broker_core.specs.declared.taking.Standing.TheVariants.{Nobody, Alive, Over}
use Rattle.broker_core.specs.Broker.{Broker, letting_go, refusal, with_step}
use Rattle.broker_core.specs.Taking.{out_at}
use Rattle.broker_cutter.specs.Steps.{steps_in}
use Rattle.c_broker.specs.Ears.{Waits}
use Rattle.c_broker.specs.Steps.{Plays, Reads}

-- what is held of peers' bytes, each peer at most once
abbrev pub Held : Type 0
Held = List (ℕ × Assembly)

-- what all peers share, what is held of their bytes, and what waits for the shell
pub record Bytewise : Type 0 where
  pub broker : Broker
  pub held : Held
  pub ears : Waits

-- what is held of a peer, if anything, as bytes
abbrev pub begun_in : Option Assembly → List ℕ
begun_in None = []
begun_in (Some held) = begun held

-- the bytes of the peer q that make no whole message yet
abbrev pub waiting : Held → ℕ → List ℕ
waiting held q = begun_in (lookup (nat_eq q) held)

-- those of the peer are these from now on, and those of each other peer what they were
abbrev pub WaitsAt : (old new : Held) → (peer : ℕ) → List ℕ → Type 0
WaitsAt old new peer bytes =
    (other : ℕ) → waiting new other ≡ cond (nat_eq peer other) bytes (waiting old other)

-- all entries are let go
abbrev pub all_gone : Broker → Broker
all_gone b = letting_go (length b.journal) b

-- why nothing is received of a peer, by how it stands
abbrev pub absent : Standing → Option Refused
absent Nobody = Some refused.NoPeer
absent (Over cause) = Some (refused.Ended cause)
absent Alive = None

-- the step of tokens, where there are any
abbrev pub token_steps : ℕ → List ℕ → List Entry
token_steps q [] = []
token_steps q (token ∷ rest) = entries.Tokens q (token ∷ rest) ∷ []

-- the steps of what the peer q sent: its tokens, and what its bytes complete
abbrev pub steps_of : ℕ → (waits bytes tokens : List ℕ) → List Entry
steps_of q waits bytes tokens = token_steps q tokens ++ steps_in q (waits ++ bytes)

-- the peer ends, unless no peer has the number or it has ended
abbrev pub ending_from : Option Refused → (ended b : Broker) → Broker
ending_from None ended b = ended
ending_from (Some why) ended b = b

-- the same by how it stands
abbrev pub ending : ℕ → Stamp → Broker → Broker
ending q given b =
    ending_from (refusal b (steps.Peer q peers.Gone)) (with_step (entries.End q Gone) given b) b

-- a peer whose bytes can't be read on ends: the journal was full for a step, or there was no memory
abbrev pub stopping : ℕ → Stamp → Result (Unit {0}) Refused → Broker → Broker
stopping q given (Ok done) b = b
stopping q given (Err refused.NoPeer) b = b
stopping q given (Err (refused.Ended cause)) b = b
stopping q given (Err (refused.JournalFull kept)) b = ending q given b
stopping q given (Err refused.NoMemory) b = ending q given b

-- this holds where it was so
abbrev pub IfStopped : Result (Unit {0}) Refused → Type 0 → Type 0
IfStopped (Ok done) Holds = Unit {0}
IfStopped (Err refused.NoPeer) Holds = Unit {0}
IfStopped (Err (refused.Ended cause)) Holds = Unit {0}
IfStopped (Err (refused.JournalFull kept)) Holds = Holds
IfStopped (Err refused.NoMemory) Holds = Holds

-- nothing is held of a peer whose bytes can't be read on, and else all is held on
abbrev pub HoldsOn : (old new : Held) → ℕ → Result (Unit {0}) Refused → Type 0
HoldsOn old new q (Ok done) = new ≡ old
HoldsOn old new q (Err refused.NoPeer) = new ≡ old
HoldsOn old new q (Err (refused.Ended cause)) = new ≡ old
HoldsOn old new q (Err (refused.JournalFull kept)) = WaitsAt old new q []
HoldsOn old new q (Err refused.NoMemory) = WaitsAt old new q []

-- the steps of what was sent were taken, up to one that wasn't, and where they can't be read on the
-- peer ended
pub record PlaysOrStops (q : ℕ) (given : Stamp) (steps : List Entry) (b : Broker)
    (result : Result (Unit {0}) Refused) (after : Broker) : Type 0 where
  pub broker : Broker
  pub plays : Plays q given steps b result broker
  pub ended : after ≡ stopping q given result broker

-- and then all entries are let go
pub record Received (q : ℕ) (given : Stamp) (steps : List Entry) (b : Broker)
    (result : Result (Unit {0}) Refused) (after : Broker) : Type 0 where
  pub broker : Broker
  pub plays : Plays q given steps b result broker
  pub gone : after ≡ all_gone (stopping q given result broker)

-- where all steps were taken, what is left of the peer's bytes waits; so does what waits of each
-- other peer, whatever was answered
pub record Keeps (old new : Held) (q : ℕ) (bytes : List ℕ)
    (result : Result (Unit {0}) Refused) : Type 0 where
  pub left : List ℕ
  pub held : WaitsAt old new q left
  pub reads : Reads q bytes result left

-- how many bytes are stored
abbrev pub count_in : Option Outgoing → ℕ
count_in None = 0
count_in (Some out) = length (stored out)

-- how many bytes are stored for the peer q; 0 where there is none
abbrev pub stored_for : Broker → ℕ → ℕ
stored_for b q = count_in (out_at b.limits.store b.journal q)

-- nothing is stored for the peers above the first number up to the other
abbrev pub NothingFor : Broker → (after upto : ℕ) → Type 0
NothingFor b after upto = (q : ℕ) → after < q → q ≤ upto → stored_for b q ≡ 0

-- the lowest peer above the number for which something is stored, or 0 where there is none
abbrev pub IsReady : Broker → (after count result : ℕ) → Type 0
IsReady b after count result =
    ((result ≡ 0) × NothingFor b after count)
    ⊎ ((after < result) × (result ≤ count) × (0 < stored_for b result)
    × ((q : ℕ) → after < q → q < result → stored_for b q ≡ 0))
