-- Worked rows: what each act of a list tells, by the definitions.
use Rattle.std.specs.Prelude.{◌≡◌, pos, [], ◌∷◌}
use Rattle.relay_model.specs.declared.act.Act.TheVariants as acts
use Rattle.relay_model.specs.declared.said.Said.TheVariants as said
use Rattle.relay_model.specs.Told.{to, told_each}

-- one string from the method to the field
abbrev pub OrdinaryPath : Type 0
OrdinaryPath =
    told_each []
    (acts.Peer
    ∷ acts.Surface 1
    ∷ acts.Field 1
    ∷ acts.Peer
    ∷ acts.Method 4
    ∷ acts.Focus 2
    ∷ acts.Enable 3
    ∷ acts.Commit 3
    ∷ acts.MString 5 (97 ∷ [])
    ∷ acts.MCommit 5 1
    ∷ [])
    ≡ ([]
    ∷ []
    ∷ []
    ∷ []
    ∷ []
    ∷ (to 3 (said.Enter 2) ∷ [])
    ∷ []
    ∷ (to 5 said.Activate ∷ to 5 (said.ContentType 0 0) ∷ to 5 said.MethodDone ∷ [])
    ∷ []
    ∷ (to 3 (said.CommitString (97 ∷ [])) ∷ to 3 (said.FieldDone 1) ∷ [])
    ∷ [])

-- a serial that names no done
abbrev pub SerialBeforeAnyDone : Type 0
SerialBeforeAnyDone =
    told_each []
    (acts.Peer
    ∷ acts.Surface 1
    ∷ acts.Field 1
    ∷ acts.Peer
    ∷ acts.Method 4
    ∷ acts.Focus 2
    ∷ acts.Enable 3
    ∷ acts.Commit 3
    ∷ acts.MString 5 (97 ∷ [])
    ∷ acts.MCommit 5 0
    ∷ [])
    ≡ ([]
    ∷ []
    ∷ []
    ∷ []
    ∷ []
    ∷ (to 3 (said.Enter 2) ∷ [])
    ∷ []
    ∷ (to 5 said.Activate ∷ to 5 (said.ContentType 0 0) ∷ to 5 said.MethodDone ∷ [])
    ∷ []
    ∷ []
    ∷ [])

-- an earlier done of the same activation
abbrev pub EarlierDone : Type 0
EarlierDone =
    told_each []
    (acts.Peer
    ∷ acts.Surface 1
    ∷ acts.Field 1
    ∷ acts.Peer
    ∷ acts.Method 4
    ∷ acts.Focus 2
    ∷ acts.Enable 3
    ∷ acts.Commit 3
    ∷ acts.MString 5 (97 ∷ [])
    ∷ acts.MCommit 5 1
    ∷ acts.Commit 3
    ∷ acts.MString 5 (98 ∷ [])
    ∷ acts.MCommit 5 1
    ∷ [])
    ≡ ([]
    ∷ []
    ∷ []
    ∷ []
    ∷ []
    ∷ (to 3 (said.Enter 2) ∷ [])
    ∷ []
    ∷ (to 5 said.Activate ∷ to 5 (said.ContentType 0 0) ∷ to 5 said.MethodDone ∷ [])
    ∷ []
    ∷ (to 3 (said.CommitString (97 ∷ [])) ∷ to 3 (said.FieldDone 1) ∷ [])
    ∷ (to 5 (said.ContentType 0 0) ∷ to 5 said.MethodDone ∷ [])
    ∷ []
    ∷ (to 3 (said.CommitString (98 ∷ [])) ∷ to 3 (said.FieldDone 2) ∷ [])
    ∷ [])

-- a done of the activation before
abbrev pub NewActivation : Type 0
NewActivation =
    told_each []
    (acts.Peer
    ∷ acts.Surface 1
    ∷ acts.Field 1
    ∷ acts.Peer
    ∷ acts.Method 4
    ∷ acts.Focus 2
    ∷ acts.Enable 3
    ∷ acts.Commit 3
    ∷ acts.MString 5 (97 ∷ [])
    ∷ acts.MCommit 5 1
    ∷ acts.Enable 3
    ∷ acts.Commit 3
    ∷ acts.MCommit 5 1
    ∷ [])
    ≡ ([]
    ∷ []
    ∷ []
    ∷ []
    ∷ []
    ∷ (to 3 (said.Enter 2) ∷ [])
    ∷ []
    ∷ (to 5 said.Activate ∷ to 5 (said.ContentType 0 0) ∷ to 5 said.MethodDone ∷ [])
    ∷ []
    ∷ (to 3 (said.CommitString (97 ∷ [])) ∷ to 3 (said.FieldDone 1) ∷ [])
    ∷ []
    ∷ (to 5 said.Activate ∷ to 5 (said.ContentType 0 0) ∷ to 5 said.MethodDone ∷ [])
    ∷ []
    ∷ [])

-- edits from before the activation
abbrev pub ResetAtActivation : Type 0
ResetAtActivation =
    told_each []
    (acts.Peer
    ∷ acts.Surface 1
    ∷ acts.Field 1
    ∷ acts.Peer
    ∷ acts.Method 4
    ∷ acts.Focus 2
    ∷ acts.MString 5 (97 ∷ [])
    ∷ acts.Enable 3
    ∷ acts.Commit 3
    ∷ acts.MPreedit 5 (98 ∷ []) (pos 0) (pos 1)
    ∷ acts.MCommit 5 1
    ∷ [])
    ≡ ([]
    ∷ []
    ∷ []
    ∷ []
    ∷ []
    ∷ (to 3 (said.Enter 2) ∷ [])
    ∷ []
    ∷ []
    ∷ (to 5 said.Activate ∷ to 5 (said.ContentType 0 0) ∷ to 5 said.MethodDone ∷ [])
    ∷ []
    ∷ (to 3 (said.Preedit (98 ∷ []) (pos 0) (pos 1)) ∷ to 3 (said.FieldDone 1) ∷ [])
    ∷ [])

-- a batch without edits
abbrev pub EmptyBatch : Type 0
EmptyBatch =
    told_each []
    (acts.Peer
    ∷ acts.Surface 1
    ∷ acts.Field 1
    ∷ acts.Peer
    ∷ acts.Method 4
    ∷ acts.Focus 2
    ∷ acts.Enable 3
    ∷ acts.Commit 3
    ∷ acts.MCommit 5 1
    ∷ [])
    ≡ ([]
    ∷ []
    ∷ []
    ∷ []
    ∷ []
    ∷ (to 3 (said.Enter 2) ∷ [])
    ∷ []
    ∷ (to 5 said.Activate ∷ to 5 (said.ContentType 0 0) ∷ to 5 said.MethodDone ∷ [])
    ∷ (to 3 (said.FieldDone 1) ∷ [])
    ∷ [])

-- commits of a field that isn't entered are counted
abbrev pub CommitsBeforeTheFocus : Type 0
CommitsBeforeTheFocus =
    told_each []
    (acts.Peer
    ∷ acts.Surface 1
    ∷ acts.Field 1
    ∷ acts.Commit 3
    ∷ acts.Commit 3
    ∷ acts.Peer
    ∷ acts.Method 6
    ∷ acts.Focus 2
    ∷ acts.Enable 3
    ∷ acts.Commit 3
    ∷ acts.MCommit 7 1
    ∷ [])
    ≡ ([]
    ∷ []
    ∷ []
    ∷ []
    ∷ []
    ∷ []
    ∷ []
    ∷ (to 3 (said.Enter 2) ∷ [])
    ∷ []
    ∷ (to 7 said.Activate ∷ to 7 (said.ContentType 0 0) ∷ to 7 said.MethodDone ∷ [])
    ∷ (to 3 (said.FieldDone 3) ∷ [])
    ∷ [])

-- a second field takes the seat from the first, whose batch is stale for it
abbrev pub SecondField : Type 0
SecondField =
    told_each []
    (acts.Peer
    ∷ acts.Surface 1
    ∷ acts.Field 1
    ∷ acts.Peer
    ∷ acts.Method 4
    ∷ acts.Focus 2
    ∷ acts.Enable 3
    ∷ acts.Commit 3
    ∷ acts.Field 1
    ∷ acts.Enable 9
    ∷ acts.Commit 9
    ∷ acts.MCommit 5 1
    ∷ [])
    ≡ ([]
    ∷ []
    ∷ []
    ∷ []
    ∷ []
    ∷ (to 3 (said.Enter 2) ∷ [])
    ∷ []
    ∷ (to 5 said.Activate ∷ to 5 (said.ContentType 0 0) ∷ to 5 said.MethodDone ∷ [])
    ∷ (to 9 (said.Enter 2) ∷ [])
    ∷ []
    ∷ (to 5 said.Activate ∷ to 5 (said.ContentType 0 0) ∷ to 5 said.MethodDone ∷ [])
    ∷ []
    ∷ [])

-- a method that comes while a field holds
abbrev pub LateMethod : Type 0
LateMethod =
    told_each []
    (acts.Peer
    ∷ acts.Surface 1
    ∷ acts.Field 1
    ∷ acts.Focus 2
    ∷ acts.Enable 3
    ∷ acts.Commit 3
    ∷ acts.Peer
    ∷ acts.Method 7
    ∷ acts.MCommit 8 1
    ∷ [])
    ≡ ([]
    ∷ []
    ∷ []
    ∷ (to 3 (said.Enter 2) ∷ [])
    ∷ []
    ∷ []
    ∷ []
    ∷ (to 8 said.Activate ∷ to 8 (said.ContentType 0 0) ∷ to 8 said.MethodDone ∷ [])
    ∷ (to 3 (said.FieldDone 1) ∷ [])
    ∷ [])

-- a surrounding text without effect
abbrev pub CursorInsideACharacter : Type 0
CursorInsideACharacter =
    told_each []
    (acts.Peer
    ∷ acts.Surface 1
    ∷ acts.Field 1
    ∷ acts.Peer
    ∷ acts.Method 4
    ∷ acts.Focus 2
    ∷ acts.Enable 3
    ∷ acts.Surround 3 (195 ∷ 169 ∷ []) (pos 2) (pos 2)
    ∷ acts.Surround 3 (195 ∷ 169 ∷ []) (pos 1) (pos 1)
    ∷ acts.Commit 3
    ∷ [])
    ≡ ([]
    ∷ []
    ∷ []
    ∷ []
    ∷ []
    ∷ (to 3 (said.Enter 2) ∷ [])
    ∷ []
    ∷ []
    ∷ []
    ∷ (to 5 said.Activate ∷ to 5 (said.Surrounding (195 ∷ 169 ∷ []) 2 2) ∷ to 5 (said.ChangeCause 0)
    ∷ to 5 (said.ContentType 0 0) ∷ to 5 said.MethodDone ∷ [])
    ∷ [])

-- the focused surface is dropped
abbrev pub DroppedSurface : Type 0
DroppedSurface =
    told_each []
    (acts.Peer
    ∷ acts.Surface 1
    ∷ acts.Field 1
    ∷ acts.Peer
    ∷ acts.Method 4
    ∷ acts.Focus 2
    ∷ acts.Enable 3
    ∷ acts.Commit 3
    ∷ acts.MString 5 (97 ∷ [])
    ∷ acts.MCommit 5 1
    ∷ acts.Drop 2
    ∷ [])
    ≡ ([]
    ∷ []
    ∷ []
    ∷ []
    ∷ []
    ∷ (to 3 (said.Enter 2) ∷ [])
    ∷ []
    ∷ (to 5 said.Activate ∷ to 5 (said.ContentType 0 0) ∷ to 5 said.MethodDone ∷ [])
    ∷ []
    ∷ (to 3 (said.CommitString (97 ∷ [])) ∷ to 3 (said.FieldDone 1) ∷ [])
    ∷ (to 5 said.Deactivate ∷ to 5 said.MethodDone ∷ to 1 (said.DeleteId 2) ∷ [])
    ∷ [])

-- the focus goes and comes again
abbrev pub FocusAgain : Type 0
FocusAgain =
    told_each []
    (acts.Peer
    ∷ acts.Surface 1
    ∷ acts.Field 1
    ∷ acts.Peer
    ∷ acts.Method 4
    ∷ acts.Focus 2
    ∷ acts.Enable 3
    ∷ acts.Commit 3
    ∷ acts.MString 5 (97 ∷ [])
    ∷ acts.MCommit 5 1
    ∷ acts.Unfocus
    ∷ acts.Focus 2
    ∷ acts.Enable 3
    ∷ acts.Commit 3
    ∷ acts.MCommit 5 2
    ∷ acts.MCommit 5 3
    ∷ [])
    ≡ ([]
    ∷ []
    ∷ []
    ∷ []
    ∷ []
    ∷ (to 3 (said.Enter 2) ∷ [])
    ∷ []
    ∷ (to 5 said.Activate ∷ to 5 (said.ContentType 0 0) ∷ to 5 said.MethodDone ∷ [])
    ∷ []
    ∷ (to 3 (said.CommitString (97 ∷ [])) ∷ to 3 (said.FieldDone 1) ∷ [])
    ∷ (to 3 (said.Leave 2) ∷ to 5 said.Deactivate ∷ to 5 said.MethodDone ∷ [])
    ∷ (to 3 (said.Enter 2) ∷ [])
    ∷ []
    ∷ (to 5 said.Activate ∷ to 5 (said.ContentType 0 0) ∷ to 5 said.MethodDone ∷ [])
    ∷ []
    ∷ (to 3 (said.FieldDone 2) ∷ [])
    ∷ [])

-- a cause is that of one commit
abbrev pub CauseOfOneCommit : Type 0
CauseOfOneCommit =
    told_each []
    (acts.Peer
    ∷ acts.Surface 1
    ∷ acts.Field 1
    ∷ acts.Peer
    ∷ acts.Method 4
    ∷ acts.Focus 2
    ∷ acts.Enable 3
    ∷ acts.Surround 3 (97 ∷ 98 ∷ []) (pos 1) (pos 1)
    ∷ acts.Cause 3 1
    ∷ acts.Commit 3
    ∷ acts.Commit 3
    ∷ [])
    ≡ ([]
    ∷ []
    ∷ []
    ∷ []
    ∷ []
    ∷ (to 3 (said.Enter 2) ∷ [])
    ∷ []
    ∷ []
    ∷ []
    ∷ (to 5 said.Activate ∷ to 5 (said.Surrounding (97 ∷ 98 ∷ []) 1 1) ∷ to 5 (said.ChangeCause 1)
    ∷ to 5 (said.ContentType 0 0) ∷ to 5 said.MethodDone ∷ [])
    ∷ (to 5 (said.Surrounding (97 ∷ 98 ∷ []) 1 1) ∷ to 5 (said.ChangeCause 0)
    ∷ to 5 (said.ContentType 0 0) ∷ to 5 said.MethodDone ∷ [])
    ∷ [])

-- what was set before the enable
abbrev pub SetBeforeEnable : Type 0
SetBeforeEnable =
    told_each []
    (acts.Peer
    ∷ acts.Surface 1
    ∷ acts.Field 1
    ∷ acts.Peer
    ∷ acts.Method 4
    ∷ acts.Focus 2
    ∷ acts.Surround 3 (97 ∷ 98 ∷ []) (pos 1) (pos 1)
    ∷ acts.Enable 3
    ∷ acts.Commit 3
    ∷ [])
    ≡ ([]
    ∷ []
    ∷ []
    ∷ []
    ∷ []
    ∷ (to 3 (said.Enter 2) ∷ [])
    ∷ []
    ∷ []
    ∷ (to 5 said.Activate ∷ to 5 (said.ContentType 0 0) ∷ to 5 said.MethodDone ∷ [])
    ∷ [])

-- the edits of a batch in their order
abbrev pub WholeBatch : Type 0
WholeBatch =
    told_each []
    (acts.Peer
    ∷ acts.Surface 1
    ∷ acts.Field 1
    ∷ acts.Peer
    ∷ acts.Method 4
    ∷ acts.Focus 2
    ∷ acts.Enable 3
    ∷ acts.Commit 3
    ∷ acts.MString 5 (97 ∷ [])
    ∷ acts.MDelete 5 2 0
    ∷ acts.MPreedit 5 (98 ∷ []) (pos 0) (pos 1)
    ∷ acts.MCommit 5 1
    ∷ [])
    ≡ ([]
    ∷ []
    ∷ []
    ∷ []
    ∷ []
    ∷ (to 3 (said.Enter 2) ∷ [])
    ∷ []
    ∷ (to 5 said.Activate ∷ to 5 (said.ContentType 0 0) ∷ to 5 said.MethodDone ∷ [])
    ∷ []
    ∷ []
    ∷ []
    ∷ (to 3 (said.Delete 2 0) ∷ to 3 (said.CommitString (97 ∷ []))
    ∷ to 3 (said.Preedit (98 ∷ []) (pos 0) (pos 1)) ∷ to 3 (said.FieldDone 1) ∷ [])
    ∷ [])
