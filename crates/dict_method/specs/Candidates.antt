-- The words that a code may spell.
use Rattle.std.specs.Prelude.{ℕ, ◌-◌, ◌==◌, Bool, List, nat_eq, Option, None, if◌then◌else◌}
use Rattle.std.specs.List.{filter, list_any, starts_with, slice_get}
use Rattle.dict_method.specs.declared.word.Word.{Word}

-- the word's keys begin with the code
abbrev pub is_candidate : List ℕ → Word → Bool
is_candidate code w = starts_with nat_eq w.keys code

-- in the order in which they were given
abbrev pub candidates : List Word → List ℕ → List Word
candidates words code = filter (is_candidate code) words

abbrev pub has_candidate : List Word → List ℕ → Bool
has_candidate words code = list_any (is_candidate code) words

-- the candidate with this number, from 1
abbrev pub candidate : List Word → List ℕ → ℕ → Option Word
candidate words code number =
    if number == 0 then None else slice_get (candidates words code) (number - 1)
