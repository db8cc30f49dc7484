-- Worked rows of a seat that goes from field to field: what each act of a list tells, by the
-- definitions.
use Rattle.std.specs.Prelude.{◌≡◌, ℕ, List, [], ◌∷◌, ◌++◌}
use Rattle.relay_model.specs.declared.act.Act.{Act}
use Rattle.relay_model.specs.declared.act.Act.TheVariants as acts
use Rattle.relay_model.specs.declared.act.EndCause.TheVariants as causes
use Rattle.relay_model.specs.declared.said.Told.{Told}
use Rattle.relay_model.specs.declared.said.Said.TheVariants as said
use Rattle.relay_model.specs.Told.{to, told_each}

-- the method 5 serves, the field 3 holds the seat, and the field 9 of the same peer is entered
abbrev pub two_fields : List Act
two_fields =
    acts.Peer
    ∷ acts.Surface 1
    ∷ acts.Field 1
    ∷ acts.Peer
    ∷ acts.Method 4
    ∷ acts.Focus 2
    ∷ acts.Enable 3
    ∷ acts.Commit 3
    ∷ acts.Field 1
    ∷ []

-- the method 5 is told that a field of this content type holds
abbrev pub activation : (hint purpose : ℕ) → List Told
activation hint purpose =
    to 5 said.Activate ∷ to 5 (said.ContentType hint purpose) ∷ to 5 said.MethodDone ∷ []

-- what the acts of two_fields tell
abbrev pub two_fields_told : List (List Told)
two_fields_told =
    []
    ∷ []
    ∷ []
    ∷ []
    ∷ []
    ∷ (to 3 (said.Enter 2) ∷ [])
    ∷ []
    ∷ activation 0 0
    ∷ (to 9 (said.Enter 2) ∷ [])
    ∷ []

-- a commit of the displaced field without a word, and a batch for the new holder
abbrev pub DisplacedFieldCommits : Type 0
DisplacedFieldCommits =
    told_each []
    (two_fields ++ (acts.Enable 9 ∷ acts.Commit 9 ∷ acts.Commit 3 ∷ acts.MCommit 5 2 ∷ []))
    ≡ two_fields_told ++ ([] ∷ activation 0 0 ∷ [] ∷ (to 9 (said.FieldDone 1) ∷ []) ∷ [])

-- A commit of the displaced field with the word disable leaves the seat to the new holder. Its
-- commit with the word enable takes the seat back, with all commits counted. Edits of an activation
-- that was displaced are in no batch.
abbrev pub DisplacedFieldDisables : Type 0
DisplacedFieldDisables =
    told_each []
    (two_fields
    ++ (acts.MString 5 (97 ∷ [])
    ∷ acts.Enable 9
    ∷ acts.Commit 9
    ∷ acts.Disable 3
    ∷ acts.Commit 3
    ∷ acts.MCommit 5 2
    ∷ acts.Enable 3
    ∷ acts.Commit 3
    ∷ acts.MCommit 5 3
    ∷ []))
    ≡ two_fields_told
    ++ ([]
    ∷ []
    ∷ activation 0 0
    ∷ []
    ∷ []
    ∷ (to 9 (said.FieldDone 1) ∷ [])
    ∷ []
    ∷ activation 0 0
    ∷ (to 3 (said.FieldDone 3) ∷ [])
    ∷ [])

-- What the displaced field requested before it was displaced counts at its commit after it. No
-- serial of an earlier activation is fresh then, its own neither.
abbrev pub DisplacedFieldReturns : Type 0
DisplacedFieldReturns =
    told_each []
    (two_fields
    ++ (acts.Enable 3
    ∷ acts.Content 3 1 2
    ∷ acts.Enable 9
    ∷ acts.Commit 9
    ∷ acts.Commit 3
    ∷ acts.MCommit 5 1
    ∷ acts.MCommit 5 2
    ∷ acts.MCommit 5 3
    ∷ []))
    ≡ two_fields_told
    ++ ([] ∷ [] ∷ [] ∷ activation 0 0 ∷ activation 1 2 ∷ [] ∷ [] ∷ (to 3 (said.FieldDone 2) ∷ [])
    ∷ [])

-- the displaced field is dropped, which leaves the seat to the new holder, and then the peer of
-- both ends
abbrev pub DisplacedFieldDropped : Type 0
DisplacedFieldDropped =
    told_each []
    (two_fields
    ++ (acts.Enable 9
    ∷ acts.Commit 9
    ∷ acts.Drop 3
    ∷ acts.MCommit 5 2
    ∷ acts.Gone 1 causes.Gone
    ∷ acts.MCommit 5 2
    ∷ []))
    ≡ two_fields_told
    ++ ([]
    ∷ activation 0 0
    ∷ (to 1 (said.DeleteId 3) ∷ [])
    ∷ (to 9 (said.FieldDone 1) ∷ [])
    ∷ (to 5 said.Deactivate ∷ to 5 said.MethodDone ∷ [])
    ∷ []
    ∷ [])
