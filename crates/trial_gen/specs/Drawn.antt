-- The trial script of a number: the keys 1 to 26 with the letters, four fields, and an action for
-- each of 400 words of the generator that the number seeds.
use Rattle.std.specs.Prelude.{ℕ, ◌+◌, ◌/◌, ◌%◌, ◌==◌, if◌then◌else◌, List, [], ◌∷◌, ◌++◌, map}
use Rattle.std.specs.List.{range_with_len}
use Rattle.dict_method.specs.Table.{single}
use Rattle.dict_method.specs.Dictionary.{empty_dictionary}
use Rattle.session_gen.specs.Generated.{word_after}
use Rattle.trial_script.specs.declared.action.Action.{Action}
use Rattle.trial_script.specs.declared.action.Action.TheVariants as actions
use Rattle.trial_script.specs.declared.action.FieldEdit.TheVariants as edits
use Rattle.trial_script.specs.declared.line.Line.{Line}
use Rattle.trial_script.specs.declared.line.Line.TheVariants as lines
use Rattle.trial_script.specs.declared.rules.KeyRules.{KeyRules}
use Rattle.trial_script.specs.declared.script.Ending.TheVariants as endings
use Rattle.trial_script.specs.declared.script.Script.{Script}
use Rattle.trial_script.specs.Grammar.{spelling}

-- ---- what is drawn

-- the text of a letter, from a to z, that the value from 0 on numbers
abbrev pub letter : ℕ → List ℕ
letter v = (97 + v) ∷ []

-- what is done, by the kind from 0 to 3, of the field f and with the value v
abbrev pub action_of : (kind f v : ℕ) → Action
action_of kind f v =
    if kind == 0 then actions.Use f
    else if kind == 1 then actions.Press (1 + v)
    else if kind == 2 then actions.Edit f (edits.Insert (letter v))
    else actions.Edit f edits.Rub

-- the action that a word draws: its kind, a field from 1 to 4, and a value from 0 to 25
unfoldable pub drawn : ℕ → Action
drawn word = action_of (word % 4) (1 + (word / 256) % 4) ((word / 65536) % 26)

-- how many actions are drawn
abbrev pub action_count : ℕ
action_count = 400

-- the action of the word behind the first `made` words of the number n
unfoldable pub action_at : ℕ → ℕ → Action
action_at n made = drawn (word_after n made)

-- the first `made` actions of the number n
unfoldable pub first_actions : ℕ → ℕ → List Action
first_actions n made = map (action_at n) (range_with_len 0 made)

-- the key k, from 1 on, has the letter of the value k - 1
abbrev pub letter_line : ℕ → Line
letter_line k = lines.Single k ((96 + k) ∷ [])

-- how many fields there are
abbrev pub field_count : ℕ
field_count = 4

-- ---- the text

-- a line with its line feed
abbrev pub line_text : Line → List ℕ
line_text line = spelling line ++ 10 ∷ []

-- lines with their line feeds
abbrev pub lines_text : List Line → List ℕ
lines_text [] = []
lines_text (line ∷ more) = line_text line ++ lines_text more

-- the lines of the first `keys` keys
unfoldable pub letter_lines : ℕ → List Line
letter_lines keys = map letter_line (range_with_len 1 keys)

-- the lines of the first `made` actions of the number n
unfoldable pub action_lines : ℕ → ℕ → List Line
action_lines n made = map lines.Act (first_actions n made)

-- all lines of the number n
unfoldable pub drawn_lines : ℕ → List Line
drawn_lines n =
    lines.Header ∷ letter_lines 26
    ++ lines.Fields field_count ∷ action_lines n action_count
    ++ lines.End ∷ []

-- the script of the number n, as its bytes
unfoldable pub script_text : ℕ → List ℕ
script_text n = lines_text (drawn_lines n)

-- ---- what is read of it

-- the 26 keys give the letters, and nothing is composed
unfoldable pub letter_rules : KeyRules
letter_rules = record {
  table =
      record { singles = map (λ k. single k ((96 + k) ∷ [])) (range_with_len 1 26); entries = [] };
  dict = empty_dictionary;
}

-- the script of the number n, whose actions begin at line 29
unfoldable pub drawn_script : ℕ → Script
drawn_script n = record {
  rules = letter_rules;
  fields = field_count;
  first_line = 29;
  actions = first_actions n action_count;
  ending = endings.End;
}
