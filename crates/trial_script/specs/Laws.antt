-- The reading of a line is the inverse of its spelling.
use Rattle.std.specs.Prelude.{◌≡◌, ℕ, List, Some}
use Rattle.trial_script.specs.declared.line.Line.{Line}
use Rattle.trial_script.specs.Grammar.{spelling, IsLine}
use Rattle.trial_script.specs.Reading.{line_of}

-- bytes that read as a line are its spelling, and it is a line of a script
abbrev pub ReadsOnlySpellings : Type 0
ReadsOnlySpellings =
    (bytes : List ℕ) (line : Line) → line_of bytes ≡ Some line →
    (bytes ≡ spelling line) × IsLine line

-- each line's spelling reads as that line
abbrev pub ReadsEachSpelling : Type 0
ReadsEachSpelling = (line : Line) → IsLine line → line_of (spelling line) ≡ Some line
