-- Steps of a peer that are taken one after the other, and the bytes that give them.
use Rattle.std.specs.Prelude.{◌≡◌, ◌⊎◌, ℕ, ◌<◌, ◌≤◌, List, [], ◌∷◌, ◌++◌, length, drop, Option, Some, None, Result, Ok, Err}
use Rattle.wl_wire.specs.Messages.{behind}
use Rattle.broker_steps.specs.declared.stamp.Stamp.{Stamp}
use Rattle.broker_model.specs.declared.journal.Entry.{Entry}
use Rattle.broker_model.specs.declared.journal.Entry.TheVariants as entries
use Rattle.broker_core.specs.declared.answers.Refused.{Refused}
use Rattle.broker_core.specs.declared.answers.Refused.TheVariants as refused
use Rattle.broker_core.specs.Broker.{Broker, with_step, peer_refusal, IsWatched}
use Rattle.broker_core.specs.Taking.{standing_of}
use Rattle.broker_cutter.specs.Steps.{steps_in}
use Rattle.c_broker.specs.Ears.{Waits, Hears}
pub use Rattle.broker_model.specs.Growth.{IsMore}

-- where steps lead, and why the next wasn't taken, where one wasn't
pub record Led : Type 0 where
  pub broker : Broker
  pub refused : Option Refused

-- no further than here, where a step is refused
abbrev pub unless_refused : Option Refused → Broker → Led → Led
unless_refused None b next = next
unless_refused (Some why) b next = record { broker = b; refused = Some why }

-- steps of the peer q, up to the first that is refused
abbrev pub led : ℕ → Stamp → List Entry → Broker → Led
led q given [] b = record { broker = b; refused = None }
led q given (e ∷ rest) b =
    unless_refused (peer_refusal b e (standing_of b.journal q)) b
    (led q given rest (with_step e given b))

-- all steps were taken and lead here
abbrev pub Leads : ℕ → Stamp → List Entry → Broker → Broker → Type 0
Leads q given steps b after = led q given steps b ≡ record { broker = after; refused = None }

-- All steps were taken. Or the first of them, and the next was refused for this reason. Or the
-- first of them, and then there was no memory.
abbrev pub Plays : {T : Type 0} → ℕ → Stamp → List Entry → Broker → Result T Refused → Broker →
    Type 0
Plays q given steps b (Ok done) after = Leads q given steps b after
Plays q given steps b (Err refused.NoMemory) after =
    (first : List Entry) × (rest : List Entry) × (steps ≡ first ++ rest)
    × Leads q given first b after
Plays q given steps b (Err why) after =
    led q given steps b ≡ record { broker = after; refused = Some why }

-- the answer that all was done
abbrev pub all_done : Result (Unit {0}) Refused
all_done = Ok tt

-- the answer why not
abbrev pub not_done : Refused → Result (Unit {0}) Refused
not_done why = Err why

-- the journal grew, and the shell was told what it is told of each entry more, and nothing else
pub record Hearing (b : Broker) (ears : Waits) (after : Broker) (ears_after : Waits) : Type 0 where
  pub limits : after.limits ≡ b.limits
  pub grew : IsMore b.journal after.journal
  pub told : IsWatched Hears b ears after ears_after

-- the bytes that are left wait for more, or a header with a bad size was the last step
abbrev pub Leaves : ℕ → (bytes left : List ℕ) → Type 0
Leaves q bytes left =
    (left ≡ behind bytes)
    ⊎ ((first : List Entry) × (head : List ℕ)
    × (steps_in q bytes ≡ first ++ entries.BadSize q head ∷ []))

-- where all steps of the bytes were taken, those that are left wait for more
abbrev pub Reads : {T : Type 0} → ℕ → List ℕ → Result T Refused → List ℕ → Type 0
Reads q bytes (Ok done) left = Leaves q bytes left
Reads q bytes (Err why) left = Unit {0}

-- the bytes began with a message, whose step was taken, and which ends with so many bytes of the
-- piece
pub record TookFirst (q : ℕ) (given : Stamp) (bytes piece : List ℕ) (used : ℕ) (b after : Broker)
    (left : List ℕ) : Type 0 where
  pub e : Entry
  pub some : 0 < used
  pub within : used ≤ length piece
  pub steps : steps_in q bytes ≡ e ∷ steps_in q (drop used piece)
  pub behind_same : behind bytes ≡ behind (drop used piece)
  pub none_left : left ≡ []
  pub taken : Leads q given (e ∷ []) b after

-- a message was taken, or the bytes gave no more than a bad size, or the next step was refused
abbrev pub GoesOn : ℕ → Stamp → (bytes piece : List ℕ) → Broker → Result (Option ℕ) Refused →
    Broker → List ℕ → Type 0
GoesOn q given bytes piece b (Ok (Some used)) after left =
    TookFirst q given bytes piece used b after left
GoesOn q given bytes piece b (Ok None) after left =
    Leads q given (steps_in q bytes) b after × Leaves q bytes left
GoesOn q given bytes piece b (Err why) after left =
    Plays q given (steps_in q bytes) b (not_done why) after
