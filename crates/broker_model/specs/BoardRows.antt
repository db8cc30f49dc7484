-- Worked rows of virtual keyboards: what their messages come to.
use Rattle.std.specs.Prelude.{◌≡◌, List, [], ◌∷◌, ◌++◌, take, codes}
use Rattle.relay_model.specs.declared.act.Act.{Act}
use Rattle.relay_model.specs.declared.act.Act.TheVariants as acts
use Rattle.relay_model.specs.declared.fault.Fault.TheVariants as faults
use Rattle.relay_model.specs.declared.role.Role.TheVariants as roles
use Rattle.broker_model.specs.declared.journal.Entry.{Entry}
use Rattle.broker_model.specs.declared.journal.Entry.TheVariants.{Join, Tokens}
use Rattle.broker_model.specs.Resolve.{past_of, resolve}
use Rattle.broker_model.specs.Out.{out_for}
use Rattle.broker_model.specs.Rows.{hex, sent, after}

-- an input method that has virtual keyboards makes a board under the id 5
abbrev pub keyed : List Entry
keyed =
    after []
    (Join roles.Keyed
    ∷ sent 1 (codes "0100000001000c0002000000")
    ∷ sent 1 (codes "02000000000020000200000008000000776c5f73656174000100000003000000")
    ∷ sent 1 (codes "020000000000380005000000200000007a77705f7669727475616c5f6b6579626f6172645f6d616e616765725f7631000100000004000000")
    ∷ sent 1 (codes "04000000000010000300000005000000")
    ∷ [])

abbrev pub BoardIsMade : Type 0
BoardIsMade =
    resolve keyed
    ≡ (acts.VBoard 1 ∷ acts.Thing 1 ∷ acts.Seat 1 ∷ acts.Registry 1 roles.Keyed ∷ acts.Peer ∷ [])

-- an application isn't offered their manager
abbrev pub ManagerIsNotOffered : Type 0
ManagerIsNotOffered =
    take 1
    (resolve
    (after []
    (Join roles.App
    ∷ sent 1 (codes "0100000001000c0002000000")
    ∷ sent 1 (codes "020000000000380005000000200000007a77705f7669727475616c5f6b6579626f6172645f6d616e616765725f7631000100000004000000")
    ∷ [])))
    ≡ (acts.Bad 1 faults.Bind 1 ∷ [])

-- the next act of the board's peer
abbrev pub next_act : List Entry → List Act
next_act rest = take 1 (resolve (after keyed rest))

abbrev pub keymap : Entry
keymap = sent 1 (codes "05000000000010000100000010000000")

abbrev pub pressed : Entry
pressed = sent 1 (codes "0500000001001400100000001e00000001000000")

-- a keymap takes the first token that waits
abbrev pub given : List Entry
given = Tokens 1 (7 ∷ 8 ∷ []) ∷ keymap ∷ []

abbrev pub KeymapTakesToken : Type 0
KeymapTakesToken =
    (next_act given ≡ (acts.VKeymap 5 (record { format = 1; token = 7; size = 16 }) ∷ []))
    × ((past_of (after keyed given)).waiting 1 ≡ (8 ∷ []))

-- and is malformed where none waits
abbrev pub KeymapLacksToken : Type 0
KeymapLacksToken = next_act (keymap ∷ []) ≡ (acts.Bad 1 faults.Malformed 1 ∷ [])

-- a key and modifiers of a board that has had a keymap
abbrev pub BoardSpeaks : Type 0
BoardSpeaks =
    (next_act (given ++ pressed ∷ []) ≡ (acts.VKey 5 16 30 1 ∷ []))
    × (next_act (given ++ sent 1 (codes "050000000200180001000000020000000300000004000000") ∷ [])
    ≡ (acts.VMods 5 (record { depressed = 1; latched = 2; locked = 3; group = 4 }) ∷ []))

-- and of one that has had none, which is told as an error of the board
abbrev pub KeymapIsMissing : Type 0
KeymapIsMissing =
    (next_act (pressed ∷ []) ≡ (acts.Bad 1 faults.NoKeymap 5 ∷ []))
    × ((out_for 65536 (after keyed (pressed ∷ [])) 1).put.bytes
    ≡ (out_for 65536 keyed 1).put.bytes ++ hex (codes "010000000000200005000000000000000a0000006e6f206b65796d6170000000"))

-- a key's state is 0 or 1: that comes first, and is told of the display
abbrev pub StateIsBad : Type 0
StateIsBad = next_act (sent 1 (codes "0500000001001400100000001e00000002000000") ∷ []) ≡ (acts.Bad 1 faults.Malformed 1 ∷ [])

-- a board is dropped, whatever it has had
abbrev pub BoardIsDropped : Type 0
BoardIsDropped = next_act (sent 1 (codes "0500000003000800") ∷ []) ≡ (acts.Drop 5 ∷ [])
