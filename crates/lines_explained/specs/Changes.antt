-- What an act changed of the seat, and its words.
use Rattle.std.specs.Prelude.{ℕ, List, [], ◌++◌, Bool, true, false, not, ◌&&◌, ◌==◌, codes, if◌then◌else◌, Option, Some, None}
use Rattle.relay_reasons.specs.declared.seat.Seat.{Seat}
use Rattle.lines_explained.specs.declared.changes.Course.{Course}
use Rattle.lines_explained.specs.declared.changes.Course.TheVariants.{Begins, GoesOn, Ends}
use Rattle.lines_explained.specs.Phrase.{phrase}

-- another one, or none any more
abbrev pub has_moved : Option ℕ → Option ℕ → Bool
has_moved None None = false
has_moved None (Some y) = true
has_moved (Some x) None = true
has_moved (Some x) (Some y) = not (x == y)

-- what became of the activation, by the counts of dones, of all and of its own: it stands while it
-- has dones, and begins with its first
abbrev pub course_of : Seat → Seat → Option Course
course_of before after =
    (if after.since == 0 then (if before.since == 0 then None else Some Ends)
    else (if not (before.since == 0) && (before.dones == after.dones) then None
    else (if after.since == 1 then Some Begins else Some GoesOn)))

-- who it is now, where that changed
abbrev pub words_now : Option ℕ → List ℕ → List ℕ → List ℕ → List ℕ
words_now (Some x) kind verb nobody = phrase kind (Some x) verb None
words_now None kind verb nobody = phrase nobody None [] None

-- nothing where it is who it was
abbrev pub moved_words : Option ℕ → Option ℕ → List ℕ → List ℕ → List ℕ → List ℕ
moved_words before after kind verb nobody =
    (if has_moved before after then words_now after kind verb nobody else [])

-- what became of the activation, and whose it is or was
abbrev pub course_words : Option Course → Seat → Seat → List ℕ
course_words None before after = []
course_words (Some Begins) before after =
    phrase (codes ", an activation of method") after.serving (codes " begins") None
course_words (Some GoesOn) before after =
    phrase (codes ", the activation of method") after.serving (codes " goes on") None
course_words (Some Ends) before after =
    phrase (codes ", the activation of method") before.serving (codes " ends") None

-- which field holds the seat, which method serves, and what became of the activation
abbrev pub changes_words : Seat → Seat → List ℕ
changes_words before after =
    moved_words before.holder after.holder (codes ", field") (codes " holds the seat")
    (codes ", no field holds the seat")
    ++ (moved_words before.serving after.serving (codes ", method") (codes " serves")
    (codes ", no method serves")
    ++ course_words (course_of before after) before after)
