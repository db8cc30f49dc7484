-- Words with numbers after them.
use Rattle.std.specs.Prelude.{ℕ, List, [], ◌∷◌, ◌++◌, Option, Some, None}
use Rattle.std.specs.Fmt.{decimal}

-- a space and the number, if there is one
abbrev pub number_after : Option ℕ → List ℕ
number_after None = []
number_after (Some n) = 32 ∷ decimal n

-- words, a number after them, and more of both
abbrev pub phrase : List ℕ → Option ℕ → List ℕ → Option ℕ → List ℕ
phrase who number what last = who ++ (number_after number ++ (what ++ number_after last))
