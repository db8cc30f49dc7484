-- Worked rows of the base session: an application and an input method join, a text is committed,
-- and one whole batch comes back.
use Rattle.std.specs.Prelude.{◌≡◌, List, [], ◌∷◌, ◌++◌, length, take, drop, codes}
use Rattle.relay_model.specs.declared.act.Act.TheVariants as acts
use Rattle.relay_model.specs.declared.act.EndCause.TheVariants as causes
use Rattle.relay_model.specs.declared.fault.Fault.TheVariants as faults
use Rattle.relay_model.specs.declared.role.Role.TheVariants as roles
use Rattle.relay_model.specs.declared.said.Said.TheVariants as said
use Rattle.relay_model.specs.Batch.{relayed}
use Rattle.relay_model.specs.Told.{told}
use Rattle.broker_steps.specs.declared.step.ShellStep.TheVariants as shell
use Rattle.broker_model.specs.declared.journal.Entry.{Entry}
use Rattle.broker_model.specs.declared.journal.Entry.TheVariants.{Join, End, Shell, Took}
use Rattle.broker_model.specs.Ids.{log_of}
use Rattle.broker_model.specs.Resolve.{past_of, resolve}
use Rattle.broker_model.specs.Groups.{group_for}
use Rattle.broker_model.specs.Out.{out_for}
use Rattle.broker_model.specs.Settle.{history}
use Rattle.broker_model.specs.Queued.{queued}
use Rattle.broker_model.specs.Rows.{hex, sent, after, asked, with_field}

-- an input method beside the application
abbrev pub with_method : List Entry
with_method =
    after with_field
    (Join roles.Method
    ∷ sent 2 (codes "0100000001000c0002000000")
    ∷ sent 2 (codes "02000000000020000200000008000000776c5f73656174000100000003000000")
    ∷ sent 2 (codes "0200000000003400040000001c0000007a77705f696e7075745f6d6574686f645f6d616e616765725f7632000100000004000000")
    ∷ sent 2 (codes "04000000000010000300000005000000")
    ∷ [])

-- a focus, a field that is enabled, and a text that the method commits
abbrev pub base_journal : List Entry
base_journal =
    after with_method
    (Shell (shell.Focus 1 6)
    ∷ sent 1 (codes "0700000001000800")
    ∷ sent 1 (codes "0700000007000800")
    ∷ sent 2 (codes "05000000000010000200000061000000")
    ∷ sent 2 (codes "0500000003000c0001000000")
    ∷ [])

-- the acts of the base session
abbrev pub BaseActs : Type 0
BaseActs =
    resolve base_journal
    ≡ (acts.MCommit 12 1
    ∷ acts.MString 12 (codes "a")
    ∷ acts.Commit 7
    ∷ acts.Enable 7
    ∷ acts.Focus 6
    ∷ acts.Method 8
    ∷ acts.Thing 8
    ∷ acts.Seat 8
    ∷ acts.Registry 8 roles.Method
    ∷ acts.Peer
    ∷ acts.Field 1
    ∷ acts.Surface 1
    ∷ acts.Thing 1
    ∷ acts.Seat 1
    ∷ acts.Thing 1
    ∷ acts.Registry 1 roles.App
    ∷ acts.Peer
    ∷ [])

-- the one whole batch of the base session
abbrev pub BatchIsQueued : Type 0
BatchIsQueued = queued 65536 base_journal 7 ≡ ((said.CommitString (codes "a") ∷ said.FieldDone 1 ∷ []) ∷ [])

-- and its bytes
abbrev pub BatchIsTold : Type 0
BatchIsTold =
    (group_for (past_of base_journal).made 1
    (told (acts.MCommit 12 1) (resolve (drop 1 base_journal)))).bytes
    ≡ hex (codes "070000000300100002000000610000000700000005000c0001000000")

-- no end follows in it
abbrev pub NobodyEnds : Type 0
NobodyEnds = history 65536 base_journal ≡ base_journal

-- all that is out for the application after it: its globals, what its seat has, the enter of its
-- field, and the batch
abbrev pub AllIsOut : Type 0
AllIsOut =
    (out_for 65536 base_journal 1).put.bytes
    ≡ (out_for 65536 asked 1).put.bytes
    ++ hex (codes "0400000000000c00000000000700000000000c0006000000070000000300100002000000610000000700000005000c0001000000")

-- and for the method: its globals, what its seat has, and the activation
abbrev pub MethodIsTold : Type 0
MethodIsTold =
    (out_for 65536 base_journal 8).put.bytes
    ≡ hex (codes "0200000000002400010000000e000000776c5f636f6d706f7369746f7200000001000000")
    ++ (hex (codes "0200000000001c000200000008000000776c5f736561740001000000")
    ++ (hex (codes "0200000000003000040000001c0000007a77705f696e7075745f6d6574686f645f6d616e616765725f76320001000000")
    ++ (hex (codes "0300000000000c0000000000")
    ++ hex (codes "0500000000000800050000000400100000000000000000000500000005000800"))))

-- a store that the batch fills to its last byte
abbrev pub LastByteFits : Type 0
LastByteFits = history 164 base_journal ≡ base_journal

-- and one byte less
abbrev pub OneByteTooMany : Type 0
OneByteTooMany = history 163 base_journal ≡ End 2 causes.Full ∷ End 1 causes.Full ∷ base_journal

-- what is taken makes room: the last message again, after the application took 100 bytes
abbrev pub TakenMakesRoom : Type 0
TakenMakesRoom =
    history 160 (sent 2 (codes "0500000003000c0001000000") ∷ Took 1 100 ∷ drop 1 base_journal)
    ≡ sent 2 (codes "0500000003000c0001000000") ∷ Took 1 100 ∷ drop 1 base_journal

-- with stores of 160 bytes the batch doesn't fit, the application is ended for it, and that end
-- tells the method more than fits, which is ended too
abbrev pub EndsFollow : Type 0
EndsFollow = history 160 base_journal ≡ End 2 causes.Full ∷ End 1 causes.Full ∷ base_journal

-- nothing of the batch is queued, though it is relayed
abbrev pub BatchIsLeftOut : Type 0
BatchIsLeftOut =
    (queued 160 (history 160 base_journal) 7 ≡ [])
    × (relayed (log_of (past_of (history 160 base_journal))) 7 ≡ ((said.CommitString (codes "a") ∷ said.FieldDone 1 ∷ []) ∷ []))
    × (length (out_for 160 (history 160 base_journal) 1).put.bytes ≡ 136)

-- a keymap's token stands at the first byte of its event
abbrev pub TokenIsPlaced : Type 0
TokenIsPlaced =
    (out_for 65536 (after with_method (sent 2 (codes "0500000005000c0006000000") ∷ Shell (shell.Keymap (record { format = 1; token = 77; size = 4096 })) ∷ [])) 8).put.tokens
    ≡ record { offset = 124; token = 77 } ∷ []

-- a second popup on a surface
abbrev pub SurfaceHasARole : Type 0
SurfaceHasARole =
    take 4
    (resolve
    (after with_method
    (sent 2 (codes "0200000000002800010000000e000000776c5f636f6d706f7369746f720000000100000006000000")
    ∷ sent 2 (codes "0600000000000c0007000000")
    ∷ sent 2 (codes "05000000040010000800000007000000")
    ∷ sent 2 (codes "05000000040010000900000007000000")
    ∷ [])))
    ≡ (acts.Bad 8 faults.Role 12 ∷ acts.Popup 12 14 ∷ acts.Surface 8 ∷ acts.Thing 8 ∷ [])
