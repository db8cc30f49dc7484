-- The lines of a transcript of several seats: each begins with its seat's number and a space.
use Rattle.std.specs.Prelude.{ℕ, ◌==◌, Bool, true, if◌then◌else◌, List, [], ◌∷◌, ◌++◌, codes}
use Rattle.std.specs.Fmt.{decimal}

-- what stands before each line of a seat
abbrev pub seat_mark : ℕ → List ℕ
seat_mark seat = decimal seat ++ 32 ∷ []

-- a text with the seat's mark before each line, where its first byte begins one or not
abbrev pub marked : ℕ → Bool → List ℕ → List ℕ
marked seat begins [] = []
marked seat begins (b ∷ text) =
    (if begins then seat_mark seat else []) ++ b ∷ marked seat (b == 10) text

-- the lines of a seat's transcript, as they stand in that of several seats
abbrev pub seat_lines : ℕ → List ℕ → List ℕ
seat_lines seat text = marked seat true text

-- the last line of a seat with so many entries, with its line feed
abbrev pub seat_end_line : ℕ → ℕ → List ℕ
seat_end_line seat entries = seat_mark seat ++ (codes "end " ++ decimal entries ++ 10 ∷ [])

-- that of a seat whose journal was full with so many counted entries
abbrev pub seat_full_line : ℕ → ℕ → List ℕ
seat_full_line seat counted =
    seat_mark seat ++ (codes "journal full " ++ decimal counted ++ 10 ∷ [])
