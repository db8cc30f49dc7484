-- Worked rows: what the definitions make of small sessions, whose messages stand as their bytes.
use Rattle.std.specs.Prelude.{◌≡◌, ℕ, ◌+◌, ◌-◌, ◌*◌, List, [], ◌∷◌, ◌++◌, take, nat_lt, if◌then◌else◌, codes}
use Rattle.wl_wire.specs.Messages.{id_of, opcode_of, body_of}
use Rattle.relay_model.specs.declared.act.Act.{Act}
use Rattle.relay_model.specs.declared.act.Act.TheVariants as acts
use Rattle.relay_model.specs.declared.act.EndCause.TheVariants as causes
use Rattle.relay_model.specs.declared.fault.Fault.TheVariants as faults
use Rattle.relay_model.specs.declared.role.Role.TheVariants as roles
use Rattle.broker_steps.specs.declared.step.ShellStep.TheVariants as shell
use Rattle.broker_model.specs.declared.journal.Entry.{Entry}
use Rattle.broker_model.specs.declared.journal.Entry.TheVariants.{Join, Message, BadSize, End, Shell}
use Rattle.broker_model.specs.Resolve.{resolve}
use Rattle.broker_model.specs.Out.{out_for}
use Rattle.broker_model.specs.Settle.{history}

-- a hexadecimal digit, by its code
abbrev pub digit : ℕ → ℕ
digit c = (if nat_lt c 58 then c - 48 else c - 87)

-- bytes by their digits
abbrev pub hex : List ℕ → List ℕ
hex (a ∷ b ∷ rest) = (16 * digit a + digit b) ∷ hex rest
hex _ = []

-- a whole message of a peer
abbrev pub sent_bytes : ℕ → List ℕ → Entry
sent_bytes peer bytes = Message peer (id_of bytes) (opcode_of bytes) (body_of bytes)

abbrev pub sent : ℕ → List ℕ → Entry
sent peer digits = sent_bytes peer (hex digits)

-- entries with the oldest first, before those of a journal
abbrev pub after : List Entry → List Entry → List Entry
after journal [] = journal
after journal (e ∷ rest) = after (e ∷ journal) rest

-- an application asks for the registry
abbrev pub asked : List Entry
asked = after [] (Join roles.App ∷ sent 1 (codes "0100000001000c0002000000") ∷ [])

abbrev pub RegistryIsMade : Type 0
RegistryIsMade = resolve asked ≡ (acts.Registry 1 roles.App ∷ acts.Peer ∷ [])

-- and is told its three globals
abbrev pub GlobalsAreTold : Type 0
GlobalsAreTold =
    (out_for 65536 asked 1).put.bytes
    ≡ hex (codes "0200000000002400010000000e000000776c5f636f6d706f7369746f7200000001000000")
    ++ (hex (codes "0200000000001c000200000008000000776c5f736561740001000000")
    ++ hex (codes "0200000000003000030000001a0000007a77705f746578745f696e7075745f6d616e616765725f763300000001000000"))

abbrev pub binds : List Entry
binds =
    sent 1 (codes "0200000000002800010000000e000000776c5f636f6d706f7369746f720000000100000003000000")
    ∷ sent 1 (codes "02000000000020000200000008000000776c5f73656174000100000004000000")
    ∷ sent 1 (codes "0200000000003400030000001a0000007a77705f746578745f696e7075745f6d616e616765725f76330000000100000005000000")
    ∷ sent 1 (codes "0300000000000c0006000000")
    ∷ sent 1 (codes "05000000010010000700000004000000")
    ∷ []

-- an application with a surface and a field
abbrev pub with_field : List Entry
with_field = after asked binds

-- a message to an id that names nothing
abbrev pub NothingNamed : Type 0
NothingNamed =
    resolve (after asked (sent 1 (codes "0900000000000800") ∷ [])) ≡ (acts.Bad 1 faults.Object 1 ∷ acts.Registry 1 roles.App ∷ acts.Peer ∷ [])

-- the header of a message of 4 bytes
abbrev pub SizeIsBad : Type 0
SizeIsBad = resolve (after [] (Join roles.App ∷ BadSize 1 (hex (codes "0100000001000400")) ∷ [])) ≡ (acts.Bad 1 faults.Size 1 ∷ acts.Peer ∷ [])

-- the next acts after the application has its field, the newest first
abbrev pub next_acts : ℕ → List Entry → List Act
next_acts n rest = take n (resolve (after with_field rest))

-- a new surface under an id that is taken
abbrev pub IdIsTaken : Type 0
IdIsTaken = next_acts 1 (sent 1 (codes "0300000000000c0005000000") ∷ []) ≡ (acts.Bad 1 faults.NewId 1 ∷ [])

-- an id that is used again names the new object
abbrev pub IdIsUsedAgain : Type 0
IdIsUsedAgain =
    next_acts 3 (sent 1 (codes "0600000000000800") ∷ sent 1 (codes "0300000000000c0006000000") ∷ Shell (shell.Focus 1 6) ∷ [])
    ≡ (acts.Focus 9 ∷ acts.Surface 1 ∷ acts.Drop 6 ∷ [])

-- a pointer is asked of the seat
abbrev pub PointerIsMissing : Type 0
PointerIsMissing = next_acts 1 (sent 1 (codes "0400000000000c0008000000") ∷ []) ≡ (acts.Bad 1 faults.Capability 4 ∷ [])

-- a field of what is no seat
abbrev pub SeatIsWrong : Type 0
SeatIsWrong = next_acts 1 (sent 1 (codes "05000000010010000800000003000000") ∷ []) ≡ (acts.Bad 1 faults.Argument 1 ∷ [])

-- an opcode that no row has
abbrev pub OpcodeIsUnknown : Type 0
OpcodeIsUnknown = next_acts 1 (sent 1 (codes "0100000005000800") ∷ []) ≡ (acts.Bad 1 faults.Opcode 1 ∷ [])

-- a request for a registry without its id
abbrev pub BodyIsMalformed : Type 0
BodyIsMalformed = next_acts 1 (sent 1 (codes "0100000001000800") ∷ []) ≡ (acts.Bad 1 faults.Malformed 1 ∷ [])

-- a new surface under an id of the server's range
abbrev pub IdIsTheServers : Type 0
IdIsTheServers = next_acts 1 (sent 1 (codes "0300000000000c00000000ff") ∷ []) ≡ (acts.Bad 1 faults.NewId 1 ∷ [])

-- an application binds what only input methods are offered
abbrev pub GlobalIsNotOffered : Type 0
GlobalIsNotOffered =
    next_acts 1
    (sent 1 (codes "0200000000003400040000001c0000007a77705f696e7075745f6d6574686f645f6d616e616765725f7632000100000008000000") ∷ [])
    ≡ (acts.Bad 1 faults.Bind 1 ∷ [])

-- a sync, whose callback's id is free at once
abbrev pub SyncIsAnswered : Type 0
SyncIsAnswered =
    (out_for 65536 (after asked (sent 1 (codes "0100000000000c0009000000") ∷ sent 1 (codes "0100000000000c0009000000") ∷ [])) 1).put.bytes
    ≡ (out_for 65536 asked 1).put.bytes
    ++ (hex (codes "0900000000000c00000000000100000001000c0009000000") ++ hex (codes "0900000000000c00000000000100000001000c0009000000"))

-- a store of 100 bytes, which the globals pass
abbrev pub StoreIsFull : Type 0
StoreIsFull = history 100 asked ≡ End 1 causes.Full ∷ asked

-- an end that follows from a refused message
abbrev pub RefusedEnds : Type 0
RefusedEnds = history 65536 (sent 1 (codes "0900000000000800") ∷ asked) ≡ End 1 causes.Bad ∷ sent 1 (codes "0900000000000800") ∷ asked
