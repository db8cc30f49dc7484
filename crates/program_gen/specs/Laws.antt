-- The law of a generated session: its lines, played one after the other, lead to its journal.
use Rattle.std.specs.Prelude.{◌≡◌, ℕ, zero, suc, List, [], ◌∷◌, ◌++◌, false}
use Rattle.session_text.specs.declared.line.SessionLine.{SessionLine}
use Rattle.session_text.specs.Steps.{step_line}
use Rattle.session_gen.specs.Generated.{step_count}
use Rattle.seat_set.specs.Laws.{lines_played, unplayed}
use Rattle.program_gen.specs.Journals.{limits, journal_of, step_at}

-- the lines of the first `made` steps of the session of n
unfoldable pub lines_up_to : ℕ → ℕ → List SessionLine
lines_up_to n zero = []
lines_up_to n (suc made) = lines_up_to n made ++ step_line (step_at n made) ∷ []

-- none of them meets a journal that is full for it, and the journal is the one that is counted
abbrev pub LinesReplay : Type 0
LinesReplay =
    (n : ℕ) →
    let p = lines_played limits (lines_up_to n step_count) unplayed in
    (p.is_full ≡ false) × (p.play.journal ≡ journal_of n step_count)
