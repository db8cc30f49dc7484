-- How an input falls into lines.
use Rattle.std.specs.Prelude.{ℕ, ◌+◌, ◌==◌, ◌&&◌, ◌||◌, nat_le, Bool, if◌then◌else◌, List, [], ◌∷◌, length, take}
use Rattle.std.specs.List.{slice_split}
use Rattle.session_text.specs.Reading.{line_limit}
pub use Rattle.wio_core.specs.WholeLines.{bytes_of}

-- the most bytes of an input that are read, and of one that is migrated
abbrev pub input_limit : ℕ
input_limit = 4294967296

abbrev pub migrate_limit : ℕ
migrate_limit = 1073741824

-- the bytes after the last line feed are no line: there are none, or the input was cut off in them
abbrev pub is_no_line : Bool → List ℕ → Bool
is_no_line cut part = (length part == 0) || (cut && nat_le (length part) line_limit)

abbrev pub last_line : Bool → List ℕ → List (List ℕ)
last_line cut part = if is_no_line cut part then [] else part ∷ []

abbrev pub lines_of_parts : Bool → List (List ℕ) → List (List ℕ)
lines_of_parts cut [] = []
lines_of_parts cut (part ∷ []) = last_line cut part
lines_of_parts cut (part ∷ next ∷ parts) = part ∷ lines_of_parts cut (next ∷ parts)

-- the lines of an input: each is ended by a line feed, but the last may lack it
unfoldable pub lines_of : Bool → List ℕ → List (List ℕ)
lines_of cut bytes = lines_of_parts cut (slice_split (λ b. b == 10) bytes)

-- what is read of an input, of which so many bytes are read at most
unfoldable pub taken : ℕ → List ℕ → List ℕ
taken limit bytes = take limit bytes

-- the input has as many bytes as are read at most
unfoldable pub is_cut : ℕ → List ℕ → Bool
is_cut limit bytes = length (taken limit bytes) == limit

-- the lines that are read of an input
unfoldable pub lines_read : ℕ → List ℕ → List (List ℕ)
lines_read limit bytes = lines_of (is_cut limit bytes) (taken limit bytes)

-- how many bytes they are, which is where the line after them begins
abbrev pub size_of : List (List ℕ) → ℕ
size_of [] = 0
size_of (line ∷ lines) = length line + 1 + size_of lines
