-- Lines, and their bytes.
use Rattle.std.specs.Prelude.{ℕ, List, [], ◌∷◌, ◌++◌}
use Rattle.wio_core.specs.Lines.{LacksFeed}

-- lines with their line feeds
abbrev pub bytes_of : List (List ℕ) → List ℕ
bytes_of [] = []
bytes_of (line ∷ lines) = line ++ 10 ∷ bytes_of lines

-- no line feed is in these lines
abbrev pub LackFeeds : List (List ℕ) → Type 0
LackFeeds [] = Unit {0}
LackFeeds (line ∷ lines) = LacksFeed line × LackFeeds lines
