-- What a press makes while the method is active, by the first row of four that applies.
use Rattle.std.specs.Prelude.{ℕ, ◌-◌, ◌==◌, ◌&&◌, not, Bool, true, false, List, [], ◌∷◌, ◌++◌, length, take, Option, Some, None, if◌then◌else◌}
use Rattle.compose_method.specs.Table.{Table, own_text}
use Rattle.dict_method.specs.Candidates.{candidate, has_candidate}
use Rattle.dict_method.specs.Dictionary.{Dictionary, control_of, is_control}
use Rattle.dict_method.specs.declared.control.Control.{Control}
use Rattle.dict_method.specs.declared.control.Control.TheVariants.{Choose, Erase}
use Rattle.dict_method.specs.declared.word.Word.{Word}

-- the string, and the new code, of which the preedit has the own texts
pub record Made : Type 0 where
  pub string : List ℕ
  pub code : List ℕ

abbrev pub made : List ℕ → List ℕ → Made
made string code = record { string = string; code = code }

-- of two rows the first that applies
abbrev pub first_of : Option Made → Option Made → Option Made
first_of (Some m) later = Some m
first_of None later = later

abbrev pub is_empty : List ℕ → Bool
is_empty code = length code == 0

-- the number that a key chooses, 0 where it chooses none
abbrev pub number_of : Option Control → ℕ
number_of (Some (Choose n)) = n
number_of _ = 0

abbrev pub erases : Option Control → Bool
erases (Some Erase) = true
erases _ = false

abbrev pub made_of_word : Option Word → Option Made
made_of_word None = None
made_of_word (Some w) = Some (made w.text [])

-- a key that chooses a number, where the code isn't empty and has a candidate with that number: the
-- candidate, and the code becomes empty
abbrev pub chosen : List Word → List ℕ → ℕ → Option Made
chosen words code number =
    if is_empty code then None else made_of_word (candidate words code number)

-- a key that erases, where the code isn't empty: no text, and the code without its last key
abbrev pub erased : List ℕ → Bool → Option Made
erased code erases =
    if erases && not (is_empty code) then Some (made [] (take (length code - 1) code)) else None

-- a key with which the longer code has a candidate: no text, and the longer code
abbrev pub longer : List Word → List ℕ → Option Made
longer words code = if has_candidate words code then Some (made [] code) else None

-- a key that is no control key, where the code is empty: the key's own text
abbrev pub own : List ℕ → Bool → List ℕ → Option Made
own text is_control code = if not is_control && is_empty code then Some (made text []) else None

-- what a press of the key makes after the code; nothing where no row applies
abbrev pub press_made : Table → Dictionary → List ℕ → ℕ → Option Made
press_made t d code key =
    first_of (chosen d.words code (number_of (control_of d.controls key)))
    (first_of (erased code (erases (control_of d.controls key)))
    (first_of (longer d.words (code ++ key ∷ []))
    (own (own_text t key) (is_control d.controls key) code)))
