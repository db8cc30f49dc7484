-- The reading of a line is the inverse of its spelling.
use Rattle.std.specs.Prelude.{◌≡◌, ℕ, List, Some}
use Rattle.session_text.specs.declared.line.Form.{Form}
use Rattle.session_text.specs.declared.line.Line.{Line}
use Rattle.session_text.specs.Grammar.{spelling, IsLine}
use Rattle.session_text.specs.Reading.{line_of}

-- bytes that read as a line are its spelling, and it is a line of the form
abbrev pub ReadsOnlySpellings : Type 0
ReadsOnlySpellings =
    (form : Form) (bytes : List ℕ) (line : Line) → line_of form bytes ≡ Some line →
    (bytes ≡ spelling form line) × IsLine form line

-- each line's spelling reads as that line, so none is longer than the limit
abbrev pub ReadsEachSpelling : Type 0
ReadsEachSpelling =
    (form : Form) (line : Line) → IsLine form line → line_of form (spelling form line) ≡ Some line
