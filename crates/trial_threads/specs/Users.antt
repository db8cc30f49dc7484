-- What of a script's actions is whose
use Rattle.std.specs.Prelude.{ℕ, zero, suc, ◌+◌, ◌%◌, ◌^◌, ◌==◌, List, [], ◌∷◌, ◌++◌, if◌then◌else◌, Bool, true, false, Option, Some, None}
use Rattle.broker_steps.specs.declared.step.ShellStep.{ShellStep}
use Rattle.broker_steps.specs.declared.step.ShellStep.TheVariants as steps
use Rattle.trial_script.specs.declared.action.Action.{Action}
use Rattle.trial_script.specs.declared.action.Action.TheVariants as actions
use Rattle.trial_script.specs.declared.action.Edits.{Edits}
use Rattle.trial_script.specs.declared.action.FieldEdit.{FieldEdit}
use Rattle.trial_script.specs.declared.script.Ending.{Ending}
use Rattle.trial_script.specs.declared.script.Ending.TheVariants as endings

-- an action that no trial in threads has: a field stops or goes on reading, or is shown
abbrev pub is_foreign : Action → Bool
is_foreign (actions.Pause f) = true
is_foreign (actions.Resume f) = true
is_foreign (actions.Show f) = true
is_foreign _ = false

-- the number of the line at which no trial in threads goes on: the first of a foreign action, from
-- the action whose line has the number n on, else that at which the script ends before its end
abbrev pub bad_line_from : ℕ → List Action → Ending → Option ℕ
bad_line_from n [] endings.End = None
bad_line_from n [] (endings.BadLine number) = Some number
bad_line_from n [] (endings.Unended number) = Some number
bad_line_from n (action ∷ more) ending =
    if is_foreign action then Some n else bad_line_from (n + 1) more ending

-- the batches of the method's user
abbrev pub batches_for : Action → List Edits
batches_for (actions.Batch b) = b ∷ []
batches_for _ = []

abbrev pub batches_in : List Action → List Edits
batches_in [] = []
batches_in (action ∷ more) = batches_for action ++ batches_in more

-- the edits of the user of the field with the number n
abbrev pub edits_for : ℕ → Action → List FieldEdit
edits_for n (actions.Edit f edit) = if f == n then edit ∷ [] else []
edits_for n _ = []

abbrev pub edits_in : ℕ → List Action → List FieldEdit
edits_in n [] = []
edits_in n (action ∷ more) = edits_for n action ++ edits_in n more

-- what the shell orders for an action at a time: the field f is that of the peer f + 1, whose
-- surface is 6
abbrev pub ordered_for : ℕ → Action → List ShellStep
ordered_for time (actions.Use f) = steps.Focus (f + 1) 6 ∷ []
ordered_for time actions.Leave = steps.Unfocus ∷ []
ordered_for time (actions.Press key) = steps.Key time key 1 ∷ steps.Key time key 0 ∷ []
ordered_for time _ = []

-- the orders of the shell, where the first action has this time
abbrev pub orders_in : ℕ → List Action → List ShellStep
orders_in time [] = []
orders_in time (action ∷ more) =
    ordered_for time action ++ orders_in ((time + 1) % 2 ^ 32) more

-- what one user does
pub data Part : Type 0 where
  of_field : List FieldEdit → Part
  of_method : List Edits → Part
  of_shell : List ShellStep → Part

-- the parts of so many fields, from the one with the number n on
abbrev pub fields_from : ℕ → ℕ → List Action → List Part
fields_from n zero all = []
fields_from n (suc more) all = of_field (edits_in n all) ∷ fields_from (n + 1) more all

-- the parts of all users: the method's, those of so many fields, and the shell's, whose first action
-- has this time
abbrev pub parts_of : (fields time : ℕ) → List Action → List Part
parts_of fields time all =
    of_method (batches_in all) ∷ fields_from 1 fields all ++ of_shell (orders_in time all) ∷ []
