-- The grammar of a script's lines: the one spelling of each, and which there are.
use Rattle.std.specs.Prelude.{ℕ, ◌^◌, ◌<◌, ◌≤◌, List, [], ◌∷◌, length, map, codes, All, IsTrue}
use Rattle.std.specs.List.{join_with_byte}
use Rattle.std.specs.Fmt.{decimal, signed_decimal}
use Rattle.session_text.specs.Ranges.{IsWithin}
use Rattle.session_text.specs.Words.{text_limit, cursor_text_limit, IsTextWithin, fits_i32, hex_word}
use Rattle.session_text.specs.Reading.{line_limit}
use Rattle.trial_script.specs.declared.action.Action.{Action}
use Rattle.trial_script.specs.declared.action.Action.TheVariants as actions
use Rattle.trial_script.specs.declared.action.FieldEdit.{FieldEdit}
use Rattle.trial_script.specs.declared.action.FieldEdit.TheVariants as edits
use Rattle.trial_script.specs.declared.action.Edits.{Edits}
use Rattle.trial_script.specs.declared.line.Line.{Line}
use Rattle.trial_script.specs.declared.line.Line.TheVariants as lines
use Rattle.trial_script.specs.Words.{field_limit, key_limit, word_key_limit, choice_limit, IsKeyWord}

abbrev pub edit_words : ℕ → FieldEdit → List (List ℕ)
edit_words f (edits.Insert text) = codes "insert" ∷ decimal f ∷ hex_word text ∷ []
edit_words f edits.Left = codes "left" ∷ decimal f ∷ []
edit_words f edits.Right = codes "right" ∷ decimal f ∷ []
edit_words f edits.Rub = codes "rub" ∷ decimal f ∷ []

abbrev pub batch_words : Edits → List (List ℕ)
batch_words b =
    codes "batch" ∷ decimal b.before ∷ decimal b.after ∷ hex_word b.string ∷ hex_word b.preedit ∷
    signed_decimal b.begin
    ∷ signed_decimal b.end ∷ []

abbrev pub action_words : Action → List (List ℕ)
action_words (actions.Use f) = codes "use" ∷ decimal f ∷ []
action_words actions.Leave = codes "leave" ∷ []
action_words (actions.Press key) = codes "press" ∷ decimal key ∷ []
action_words (actions.Batch b) = batch_words b
action_words (actions.Edit f edit) = edit_words f edit
action_words (actions.Pause f) = codes "pause" ∷ decimal f ∷ []
action_words (actions.Resume f) = codes "resume" ∷ decimal f ∷ []
action_words (actions.Show f) = codes "show" ∷ decimal f ∷ []

abbrev pub line_words : Line → List (List ℕ)
line_words lines.Header = codes "trial" ∷ codes "1" ∷ []
line_words (lines.Single key text) = codes "single" ∷ decimal key ∷ hex_word text ∷ []
line_words (lines.Compose text keys) = codes "compose" ∷ hex_word text ∷ map decimal keys
line_words (lines.Word text keys) = codes "word" ∷ hex_word text ∷ map decimal keys
line_words (lines.Choose key n) = codes "choose" ∷ decimal key ∷ decimal n ∷ []
line_words (lines.Erase key) = codes "erase" ∷ decimal key ∷ []
line_words (lines.Fields n) = codes "fields" ∷ decimal n ∷ []
line_words (lines.Act action) = action_words action
line_words lines.End = codes "end" ∷ []

-- the words of a line, separated by one space
abbrev pub spelling : Line → List ℕ
spelling line = join_with_byte 32 (line_words line)

abbrev pub IsField : ℕ → Type 0
IsField f = IsWithin field_limit f

-- an inserted text is as long as its line has room for it
abbrev pub IsFieldEdit : FieldEdit → Type 0
IsFieldEdit (edits.Insert text) = IsTextWithin line_limit text
IsFieldEdit edits.Left = Unit {0}
IsFieldEdit edits.Right = Unit {0}
IsFieldEdit edits.Rub = Unit {0}

-- the edits of a batch fit the requests that send them
pub record AreEdits (b : Edits) : Type 0 where
  pub before : b.before < 2 ^ 32
  pub after : b.after < 2 ^ 32
  pub string : IsTextWithin text_limit b.string
  pub preedit : IsTextWithin cursor_text_limit b.preedit
  pub begin : IsTrue (fits_i32 b.begin)
  pub end : IsTrue (fits_i32 b.end)

-- the action holds only what a line can give
abbrev pub IsAction : Action → Type 0
IsAction (actions.Use f) = IsField f
IsAction actions.Leave = Unit {0}
IsAction (actions.Press key) = key < 2 ^ 32
IsAction (actions.Batch b) = AreEdits b
IsAction (actions.Edit f edit) = IsField f × IsFieldEdit edit
IsAction (actions.Pause f) = IsField f
IsAction (actions.Resume f) = IsField f
IsAction (actions.Show f) = IsField f

-- from 2 to 8 keys
pub record AreKeys (keys : List ℕ) : Type 0 where
  pub several : 2 ≤ length keys
  pub few : length keys ≤ key_limit
  pub each : All (λ key. key < 2 ^ 32) keys

-- from 1 to 16 keys
pub record AreWordKeys (keys : List ℕ) : Type 0 where
  pub some : 1 ≤ length keys
  pub few : length keys ≤ word_key_limit
  pub each : All (λ key. key < 2 ^ 32) keys

-- the parts of the line are in their ranges
abbrev pub HasParts : Line → Type 0
HasParts lines.Header = Unit {0}
HasParts (lines.Single key text) = (key < 2 ^ 32) × IsKeyWord text
HasParts (lines.Compose text keys) = IsKeyWord text × AreKeys keys
HasParts (lines.Word text keys) = IsKeyWord text × AreWordKeys keys
HasParts (lines.Choose key n) = (key < 2 ^ 32) × IsWithin choice_limit n
HasParts (lines.Erase key) = key < 2 ^ 32
HasParts (lines.Fields n) = IsField n
HasParts (lines.Act action) = IsAction action
HasParts lines.End = Unit {0}

-- the line is one of a script: its parts are in their ranges, and it is no longer than the limit
abbrev pub IsLine : Line → Type 0
IsLine line = HasParts line × (length (spelling line) ≤ line_limit)
