-- What the functions owe that C calls as peers join, send, end and take.
use Rattle.std.specs.Prelude.{◌≡◌, ◌⊎◌, ◌<◌, ◌≤◌, ℕ, ℤ, negsuc, List, [], ◌∷◌, ◌++◌, length, min, take, drop, Option, Some, None, option_map, Result, Err, IfSome, IfNone, IfOk, OnOk, OnErr, IsOk, IsOkUnless}
use Rattle.relay_model.specs.declared.act.EndCause.TheVariants.{Gone}
use Rattle.relay_model.specs.declared.role.Role.{Role}
use Rattle.broker_steps.specs.declared.stamp.Stamp.{Stamp}
use Rattle.broker_steps.specs.declared.step.Step.TheVariants as steps
use Rattle.broker_steps.specs.declared.step.PeerStep.TheVariants as peers
use Rattle.broker_model.specs.declared.journal.Entry.TheVariants as entries
use Rattle.broker_model.specs.Resolve.{past_of}
use Rattle.broker_core.specs.declared.answers.JoinRefusal.{JoinRefusal}
use Rattle.broker_core.specs.declared.answers.JoinRefusal.TheVariants as join
use Rattle.broker_core.specs.declared.answers.Refused.{Refused}
use Rattle.broker_core.specs.declared.answers.Took.{Took}
use Rattle.broker_core.specs.declared.answers.Took.TheVariants as took
use Rattle.broker_core.specs.Broker.{with_step, join_refusal, refusal, take_refusal, IfBytes, IfNoBytes, IsBytesUnlessMemory}
use Rattle.broker_core.specs.Taking.{out_at, standing_of, IsTaken}
use Rattle.c_broker.specs.Steps.{Hearing}
use Rattle.c_broker.specs.Seated.{Bytewise, Received, Keeps, IfStopped, WaitsAt, absent, all_gone, steps_of, waiting}
use Rattle.c_library.specs.declared.broker_peers.Taken.{Taken}
use Rattle.c_library.specs.Codes.{role_of, stamp_at, join_code, done_code, took_code}
use Rattle.c_library.specs.Called.{Called, CalledOr}

-- a peer joined, or none, as the answer says
pub record Joined (role : Role) (given : Stamp) (old new : Bytewise)
    (answer : Result ℕ JoinRefusal) : Type 0 where
  pub refused : IfSome (join_refusal old.broker role) (λ why. answer ≡ Err why)
  pub accepted : IfNone (join_refusal old.broker role) (IsOkUnless answer join.NoMemory)
  pub ok : OnOk answer (new.broker ≡ all_gone (with_step (entries.Join role) given old.broker))
  pub number : IfOk answer (λ number. number ≡ length (past_of new.broker.journal).joined)
  pub err : OnErr answer (new.broker ≡ old.broker)
  pub held : new.held ≡ old.held
  pub told : Hearing old.broker old.ears new.broker new.ears

-- no role has the number, and all is as before, or a peer joins as the role that has it
abbrev pub JoinsAs : Stamp → Option Role → (old new : Bytewise) → ℤ → Type 0
JoinsAs given None old new result = (new ≡ old) × (result ≡ negsuc 7)
JoinsAs given (Some role) old new result =
    (answer : Result ℕ JoinRefusal) × (result ≡ join_code answer) × Joined role given old new answer

-- the same by the numbers of C
abbrev pub Joins : (moment role : ℕ) → (old new : Bytewise) → ℤ → Type 0
Joins moment role old new result = JoinsAs (stamp_at moment) (role_of role) old new result

-- what a peer sent was received, as the answer says
pub record Sent (q : ℕ) (given : Stamp) (bytes tokens : List ℕ) (old new : Bytewise)
    (answer : Result (Unit {0}) Refused) : Type 0 where
  pub refused : IfSome (absent (standing_of old.broker.journal q)) (λ why. answer ≡ Err why)
  pub same : IfSome (absent (standing_of old.broker.journal q)) (λ why. new ≡ old)
  pub received : IfNone (absent (standing_of old.broker.journal q))
      (Received q given (steps_of q (waiting old.held q) bytes tokens) old.broker answer new.broker)
  pub keeps : IfNone (absent (standing_of old.broker.journal q))
      (Keeps old.held new.held q (waiting old.held q ++ bytes) answer)
  pub stopped : IfStopped answer (WaitsAt old.held new.held q [])
  pub told : Hearing old.broker old.ears new.broker new.ears

-- there are more than 256 tokens, and all is as before, or what was sent is received
abbrev pub Receives : (moment peer : ℕ) → (bytes tokens : List ℕ) → (old new : Bytewise) → ℤ →
    Type 0
Receives moment peer bytes tokens old new result =
    ((256 < length tokens) × (new ≡ old) × (result ≡ negsuc 7))
    ⊎ ((length tokens ≤ 256) × (answer : Result (Unit {0}) Refused) × (result ≡ done_code answer)
    × Sent peer (stamp_at moment) bytes tokens old new answer)

-- the link of a peer ended, as the answer says
pub record Left (q : ℕ) (given : Stamp) (old new : Bytewise)
    (answer : Result (Unit {0}) Refused) : Type 0 where
  pub refused : IfSome (refusal old.broker (steps.Peer q peers.Gone)) (λ why. answer ≡ Err why)
  pub accepted : IfNone (refusal old.broker (steps.Peer q peers.Gone)) (IsOk answer)
  pub ok : OnOk answer (new.broker ≡ all_gone (with_step (entries.End q Gone) given old.broker))
  pub err : OnErr answer (new.broker ≡ old.broker)
  pub held : WaitsAt old.held new.held q []
  pub told : Hearing old.broker old.ears new.broker new.ears

-- the same by the numbers of C
abbrev pub Leaves : (moment peer : ℕ) → (old new : Bytewise) → ℤ → Type 0
Leaves moment peer old new result =
    (answer : Result (Unit {0}) Refused) × (result ≡ done_code answer)
    × Left peer (stamp_at moment) old new answer

-- what was stored for a peer was taken into the bytes and tokens, as the answer says
pub record TookInto (q : ℕ) (given : Stamp) (bytes tokens bytes_after tokens_after : List ℕ)
    (old new : Bytewise) (answer : Took) : Type 0 where
  pub refused : IfSome (take_refusal old.broker q) (λ why. answer ≡ why)
  pub accepted : IfNone (take_refusal old.broker q) (IsBytesUnlessMemory answer)
  pub taken : IfSome (out_at old.broker.limits.store old.broker.journal q) (λ out. IfBytes answer
      (λ counts. IsTaken out old.broker.journal q bytes tokens counts bytes_after tokens_after
      (entries.Took q counts.0 ∷ old.broker.journal)))
  pub settled : IfBytes answer (λ counts. new.broker ≡
      all_gone (with_step (entries.Took q counts.0) given old.broker))
  pub same : IfNoBytes answer (new.broker ≡ old.broker)
  pub same_bytes : IfNoBytes answer (bytes_after ≡ bytes)
  pub same_tokens : IfNoBytes answer (tokens_after ≡ tokens)
  pub held : new.held ≡ old.held
  pub told : Hearing old.broker old.ears new.broker new.ears

-- how much was taken, where anything was
abbrev pub counted : Took → Taken → Taken
counted (took.Bytes bytes tokens) was = record { bytes = bytes; tokens = tokens }
counted _ was = was

-- there is no room for a byte or for 256 tokens
abbrev pub IsShort : (bytes tokens : List ℕ) → Type 0
IsShort bytes tokens = (length bytes ≡ 0) ⊎ (length tokens < 256)

-- how many bytes are taken at most: 4,096, or as many as there is room for
abbrev pub room_in : List ℕ → ℕ
room_in bytes = min 4096 (length bytes)

-- bytes are taken into the first of those that C has, and those behind stay
abbrev pub TakesFront : (moment peer : ℕ) → (bytes tokens : List ℕ) → Taken →
    (bytes_after tokens_after : List ℕ) → Taken → (old new : Bytewise) → ℤ → Type 0
TakesFront moment peer bytes tokens counts bytes_after tokens_after counts_after old new result =
    (answer : Took) × (front : List ℕ) × (bytes_after ≡ front ++ drop (room_in bytes) bytes)
    × (result ≡ took_code answer) × (counts_after ≡ counted answer counts)
    × TookInto peer (stamp_at moment) (take (room_in bytes) bytes) tokens front tokens_after old new
    answer

-- there is too little room, and nothing is written and all is as before, or bytes are taken
abbrev pub Takes : (moment peer : ℕ) → (bytes tokens : List ℕ) → Taken →
    (bytes_after tokens_after : List ℕ) → Taken → (old new : Bytewise) → ℤ → Type 0
Takes moment peer bytes tokens counts bytes_after tokens_after counts_after old new result =
    (IsShort bytes tokens × (new ≡ old) × (bytes_after ≡ bytes) × (tokens_after ≡ tokens)
    × (counts_after ≡ counts) × (result ≡ negsuc 5))
    ⊎ ((0 < length bytes) × (256 ≤ length tokens) × TakesFront moment peer bytes tokens counts
    bytes_after tokens_after counts_after old new result)

-- the same of what C has
abbrev pub JoinCalled : (moment role : ℕ) → Option Bytewise → Option Bytewise → ℤ → Type 0
JoinCalled moment role = Called (λ old new result. Joins moment role old new result)

abbrev pub ReceiveCalled : (moment peer : ℕ) → (bytes tokens : List ℕ) → Option Bytewise →
    Option Bytewise → ℤ → Type 0
ReceiveCalled moment peer bytes tokens =
    Called (λ old new result. Receives moment peer bytes tokens old new result)

abbrev pub GoneCalled : (moment peer : ℕ) → Option Bytewise → Option Bytewise → ℤ → Type 0
GoneCalled moment peer = Called (λ old new result. Leaves moment peer old new result)

abbrev pub TakeCalled : (moment peer : ℕ) → (bytes tokens : List ℕ) → Taken →
    (bytes_after tokens_after : List ℕ) → Taken → Option Bytewise → Option Bytewise → ℤ → Type 0
TakeCalled moment peer bytes tokens counts bytes_after tokens_after counts_after =
    CalledOr ((bytes_after ≡ bytes) × (tokens_after ≡ tokens) × (counts_after ≡ counts))
    (λ old new result. Takes moment peer bytes tokens counts bytes_after tokens_after counts_after
    old new result)
