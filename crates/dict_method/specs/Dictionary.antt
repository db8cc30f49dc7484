-- A dictionary: words with the keys that spell them, and the keys that choose or erase.
use Rattle.std.specs.Prelude.{◌≡◌, ℕ, ◌≤◌, Bool, false, ◌||◌, ◌==◌, List, [], ◌∷◌, ◌++◌, length, find, Option, option_map, All}
use Rattle.std.specs.List.{list_any}
use Rattle.compose_method.specs.Table.{IsKeyText}
use Rattle.dict_method.specs.declared.control.Control.{Control}
use Rattle.dict_method.specs.declared.control.Control.TheVariants.{Choose}
use Rattle.dict_method.specs.declared.control.ControlKey.{ControlKey}
use Rattle.dict_method.specs.declared.dict.TheConstants.{MAX_WORDS, MAX_WORD_KEYS}
use Rattle.dict_method.specs.declared.word.Word.{Word}

-- words and control keys, in the order in which they were given
pub record Dictionary : Type 0 where
  pub words : List Word
  pub controls : List ControlKey

abbrev pub empty_dictionary : Dictionary
empty_dictionary = record { words = []; controls = [] }

abbrev pub word : List ℕ → List ℕ → Word
word text keys = record { keys = keys; text = text }

abbrev pub control : ℕ → Control → ControlKey
control key what = record { key = key; what = what }

-- what the control key with this number does
abbrev pub control_of : List ControlKey → ℕ → Option Control
control_of controls key = option_map (λ c. c.what) (find (λ c. c.key == key) controls)

abbrev pub is_control : List ControlKey → ℕ → Bool
is_control controls key = list_any (λ c. c.key == key) controls

-- whether the key is one of the word's
abbrev pub has_key : ℕ → Word → Bool
has_key key w = list_any (λ k. key == k) w.keys

-- whether the key stands in a word
abbrev pub is_spelling : List Word → ℕ → Bool
is_spelling words key = list_any (has_key key) words

-- both choose the candidate with one number
abbrev pub is_same_choice : Control → Control → Bool
is_same_choice (Choose n) (Choose m) = n == m
is_same_choice _ _ = false

-- whether a key chooses the same
abbrev pub is_taken : List ControlKey → Control → Bool
is_taken controls what = list_any (λ c. is_same_choice what c.what) controls

-- no control key may stand in a word
abbrev pub clashes_word : Dictionary → List ℕ → Bool
clashes_word d keys = list_any (is_control d.controls) keys

-- the key is a control key already, or stands in a word, or the number is another key's
abbrev pub clashes_control : Dictionary → ℕ → Control → Bool
clashes_control d key what =
    is_control d.controls key || (is_spelling d.words key || is_taken d.controls what)

abbrev pub with_word : Word → Dictionary → Dictionary
with_word w d = record d { words = d.words ++ w ∷ [] }

abbrev pub with_control : ControlKey → Dictionary → Dictionary
with_control c d = record d { controls = d.controls ++ c ∷ [] }

-- 1 to 16 keys
pub record AreWordKeys (keys : List ℕ) : Type 0 where
  pub some : 1 ≤ length keys
  pub few : length keys ≤ MAX_WORD_KEYS

-- a word of a dictionary with these control keys
pub record IsWord (controls : List ControlKey) (w : Word) : Type 0 where
  pub keys : AreWordKeys w.keys
  pub text : IsKeyText w.text
  pub apart : list_any (is_control controls) w.keys ≡ false

-- what is true of every dictionary
pub record IsDictionary (d : Dictionary) : Type 0 where
  pub words : All (IsWord d.controls) d.words
  pub few : length d.words ≤ MAX_WORDS
