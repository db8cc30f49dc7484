-- What became of an activation, by the acts that began it.
use Rattle.std.specs.Prelude.{◌≡◌, ℕ, ◌+◌, ◌^◌, ◌<◌, List, [], ◌∷◌, length, Bool, false, ◌==◌, if◌then◌else◌, Option, Some, None, is_some}
use Rattle.relay_model.specs.declared.act.Act.{Act}
use Rattle.relay_model.specs.Activation.{begun, notice}
use Rattle.relay_model.specs.Idle.{history}
use Rattle.relay_reasons.specs.Seat.{seat}
use Rattle.lines_explained.specs.declared.changes.Course.{Course}
use Rattle.lines_explained.specs.declared.changes.Course.TheVariants.{Begins, GoesOn, Ends}
use Rattle.lines_explained.specs.Changes.{course_of}

-- by the act that began what stands after the act n, the one that began what stood before it, and
-- whether a done was told
abbrev pub became : Option ℕ → Option ℕ → ℕ → Bool → Option Course
became None None n told = None
became None (Some b) n told = Some Ends
became (Some b) before n told =
    (if b == n then Some Begins else (if told then Some GoesOn else None))

-- the newest act says something of the hold
abbrev pub notices : List Act → Bool
notices [] = false
notices (act ∷ older) = is_some (notice act older)

-- as long as acts have numbers of 32 bits, the counts say what became of the activation
abbrev pub CourseLaw : Type 0
CourseLaw =
    (act : Act) (acts : List Act) → length acts + 1 < 2 ^ 32 →
    course_of (seat (history acts)) (seat (history (act ∷ acts)))
    ≡ became (begun (history (act ∷ acts))) (begun (history acts)) (length acts + 1)
    (notices (history (act ∷ acts)))
