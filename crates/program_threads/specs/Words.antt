-- The words that ask for a trial in threads.
use Rattle.std.specs.Prelude.{ℕ, if◌then◌else◌, List, [], ◌∷◌, codes, Option, None}
use Rattle.std.specs.Str.{bytes_eq}
use Rattle.trial_run.specs.Words.{long_number_of}

-- `trial-threads N`, where N is a decimal number below 2 ^ 64 without a zero in front
abbrev pub number_named : (word number : List ℕ) → Option ℕ
number_named word number =
    if bytes_eq word (codes "trial-threads") then long_number_of number else None

-- the number for which words ask
abbrev pub number_asked : List (List ℕ) → Option ℕ
number_asked (word ∷ number ∷ []) = number_named word number
number_asked _ = None
