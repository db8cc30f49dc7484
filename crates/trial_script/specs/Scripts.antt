-- What the lines of a script come to: its rules of keys, its fields, its actions, and how it ends.
use Rattle.std.specs.Prelude.{ℕ, ◌+◌, nat_le, if◌then◌else◌, List, [], ◌∷◌, Option, Some, None, All, ◌≤◌}
use Rattle.trial_script.specs.declared.action.Action.{Action}
use Rattle.trial_script.specs.declared.action.Action.TheVariants as actions
use Rattle.trial_script.specs.declared.line.Line.{Line}
use Rattle.trial_script.specs.declared.line.Line.TheVariants as lines
use Rattle.trial_script.specs.declared.rules.KeyRules.{KeyRules}
use Rattle.trial_script.specs.declared.script.Ending.{Ending}
use Rattle.trial_script.specs.declared.script.Ending.TheVariants as endings
use Rattle.trial_script.specs.declared.script.Script.{Script}
use Rattle.trial_script.specs.declared.script.Found.{Found}
use Rattle.trial_script.specs.declared.script.Found.TheVariants as found
use Rattle.trial_script.specs.Words.{field_limit}
use Rattle.trial_script.specs.Grammar.{IsAction}
use Rattle.trial_script.specs.Reading.{line_of}
use Rattle.trial_script.specs.Lines.{lines_of}
use Rattle.trial_script.specs.Rules.{no_rules, with_entry_of}

-- ---- the actions

-- the field of which the action speaks, 0 where it speaks of none
abbrev pub field_named : Action → ℕ
field_named (actions.Use f) = f
field_named (actions.Edit f edit) = f
field_named (actions.Pause f) = f
field_named (actions.Resume f) = f
field_named (actions.Show f) = f
field_named _ = 0

-- what follows in a script of so many fields: actions, and how it ends
pub record Rest : Type 0 where
  pub actions : List Action
  pub ending : Ending

abbrev pub over : Ending → Rest
over ending = record { actions = []; ending = ending }

abbrev pub before_rest : Action → Rest → Rest
before_rest action rest = record rest { actions = action ∷ rest.actions }

abbrev pub found_action : (fields : ℕ) → Action → Found
found_action fields action =
    if nat_le (field_named action) fields then found.Act action else found.Bad

-- what a line is among the actions of so many fields
abbrev pub found_of : (fields : ℕ) → Option Line → Found
found_of fields (Some (lines.Act action)) = found_action fields action
found_of fields (Some lines.End) = found.End
found_of fields _ = found.Bad

-- what the line with this number makes of those that follow
abbrev pub by_found : (number : ℕ) → Found → Rest → Rest
by_found number (found.Act action) rest = before_rest action rest
by_found number found.End rest = over endings.End
by_found number found.Bad rest = over (endings.BadLine number)

-- the actions of the lines from the one with this number on
unfoldable pub actions_of : (fields number : ℕ) → List (List ℕ) → Rest
actions_of fields number [] = over (endings.Unended number)
actions_of fields number (raw ∷ more) =
    by_found number (found_of fields (line_of raw)) (actions_of fields (number + 1) more)

-- ---- the rules of keys, and the whole

-- a script that ends before its actions
abbrev pub without_actions : KeyRules → Ending → Script
without_actions r ending =
    record { rules = r; fields = 0; first_line = 0; actions = []; ending = ending }

abbrev pub with_actions : KeyRules → (fields number : ℕ) → Rest → Script
with_actions r fields number rest =
    record {
      rules = r;
      fields = fields;
      first_line = number;
      actions = rest.actions;
      ending = rest.ending;
    }

-- reading goes on with rules, or ends at the line with this number
abbrev pub by_rules : KeyRules → ℕ → Option KeyRules → (KeyRules → Script) → Script
by_rules r number None next = without_actions r (endings.BadLine number)
by_rules r number (Some with) next = next with

-- a line with this number before the actions: `next` reads on with rules, `play` reads the actions
-- of so many fields
abbrev pub by_entry : KeyRules → ℕ → Option Line → (KeyRules → Script) → (ℕ → Rest) → Script
by_entry r number None next play = without_actions r (endings.BadLine number)
by_entry r number (Some (lines.Fields n)) next play = with_actions r n (number + 1) (play n)
by_entry r number (Some line) next play = by_rules r number (with_entry_of r line) next

-- the script of the lines from the one with this number on, by the rules so far
unfoldable pub script_from : KeyRules → ℕ → List (List ℕ) → Script
script_from r number [] = without_actions r (endings.Unended number)
script_from r number (raw ∷ more) =
    by_entry r number (line_of raw) (λ with. script_from with (number + 1) more)
    (λ n. actions_of n (number + 1) more)

-- the lines after the first, which has to be a header
abbrev pub by_header : Option Line → List (List ℕ) → Script
by_header (Some lines.Header) more = script_from no_rules 2 more
by_header _ more = without_actions no_rules (endings.BadLine 1)

abbrev pub script_of_lines : List (List ℕ) → Script
script_of_lines [] = without_actions no_rules (endings.Unended 1)
script_of_lines (raw ∷ more) = by_header (line_of raw) more

-- the script of the bytes
unfoldable pub script_of : List ℕ → Script
script_of bytes = script_of_lines (lines_of bytes)

-- what is true of every script that was read
pub record IsScript (s : Script) : Type 0 where
  pub fields : s.fields ≤ field_limit
  pub actions : All (λ action. IsAction action × (field_named action ≤ s.fields)) s.actions
