-- How a script falls into lines.
use Rattle.std.specs.Prelude.{ℕ, ◌==◌, if◌then◌else◌, List, [], ◌∷◌, length}
use Rattle.std.specs.List.{slice_split}

-- the bytes after the last line feed are a line where there are any
abbrev pub last_line : List ℕ → List (List ℕ)
last_line part = if length part == 0 then [] else part ∷ []

abbrev pub lines_of_parts : List (List ℕ) → List (List ℕ)
lines_of_parts [] = []
lines_of_parts (part ∷ []) = last_line part
lines_of_parts (part ∷ next ∷ parts) = part ∷ lines_of_parts (next ∷ parts)

-- the lines of a script: each is ended by a line feed, but the last may lack it
unfoldable pub lines_of : List ℕ → List (List ℕ)
lines_of bytes = lines_of_parts (slice_split (λ b. b == 10) bytes)
