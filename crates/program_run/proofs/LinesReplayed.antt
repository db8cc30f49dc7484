-- A session is answered by the transcript of what its lines played.
use Rattle.std.proofs.Common.{◌≡◌, ℕ, ◌+◌, Bool, true, false, List, [], ◌∷◌, length, Option, refl, ap, ◌∙◌}
use Rattle.std.specs.Prelude.{if◌then◌else◌}
use Rattle.broker_steps.specs.declared.limits.Limits.{Limits}
use Rattle.broker_steps.specs.declared.stamp.Stamp.{Stamp}
use Rattle.session_text.specs.declared.line.SessionLine.{SessionLine}
use Rattle.broker_model.specs.Limits.{number_counted}
use Rattle.seat_set.specs.Laws.{lines_played}
use Rattle.seat_set.specs.Played.{Play, Played, line_played}
use Rattle.seat_set.proofs.SessionHistory.{session_law}
use Rattle.program_run.specs.declared.last_line.LastLine.{LastLine}
use Rattle.program_run.specs.declared.last_line.LastLine.TheVariants as last
use Rattle.program_run.specs.declared.session_line.Meaning.{Meaning}
use Rattle.program_run.specs.declared.session_line.Meaning.TheVariants as meaning
use Rattle.program_run.specs.declared.session_line.Opening.{Opening}
use Rattle.program_run.specs.declared.session_line.Stage.{Stage}
use Rattle.program_run.specs.Endings.{Answer, ending}
use Rattle.program_run.specs.Session.{by_meaning, by_opening, closed, first_stage, meaning_of, next_stage, session_from, unplayed}
use Rattle.program_run.specs.Replayed.{SessionsAreReplayed, lines_by, session_lines}

-- the answer closes what the lines led to
abbrev Closes : Limits → Played → Answer → Type 0
Closes limits p answer = (end : LastLine) × (answer ≡ closed limits p.play (ending end))

-- a line was played, and the journal was full for it or not
by_played : (limits : Limits) (p : Played) (lines : List SessionLine) (rest : Play → Answer) (b : Bool)
    → Closes limits (lines_played limits lines p.play) (rest p.play)
    → Closes limits (if b then p else lines_played limits lines p.play)
    (if b then closed limits p.play (ending (last.Full (number_counted p.play.journal))) else rest p.play)
by_played limits p lines rest true next = (last.Full (number_counted p.play.journal), refl)
by_played limits p lines rest false next = next

by_line : (limits : Limits) (n : ℕ) (play : Play) (m : Meaning) (lines : Stamp → List SessionLine)
    (rest : Stamp → Play → Answer)
    → ((stamp : Stamp) (next : Play) → Closes limits (lines_played limits (lines stamp) next) (rest stamp next))
    → Closes limits (lines_played limits (lines_by m lines) play) (by_meaning limits n play m rest)
by_line limits n play (meaning.Play stamp found) lines rest next =
    let p = line_played limits found play in
    by_played limits p (lines stamp) (rest stamp) p.is_full (next stamp p.play)
by_line limits n play meaning.End lines rest next = (last.End (length play.journal), refl)
by_line limits n play meaning.Bad lines rest next = (last.Bad (n + 1), refl)

lines_close : (limits : Limits) (cut : Bool) (n : ℕ) (stage : Stage) (play : Play) (lines : List (List ℕ))
    → Closes limits (lines_played limits (session_lines stage lines) play) (session_from limits cut n stage play lines)
unfolding session_from
lines_close limits cut n stage play [] = (if cut then last.Long else last.Bad (n + 1), refl)
lines_close limits cut n stage play (raw ∷ lines) =
    by_line limits n play (meaning_of stage raw)
    (λ stamp. session_lines (next_stage stage stamp) lines)
    (λ stamp next. session_from limits cut (n + 1) (next_stage stage stamp) next lines)
    (λ stamp next. lines_close limits cut (n + 1) (next_stage stage stamp) next lines)

pub sessions_are_replayed : SessionsAreReplayed
sessions_are_replayed cut opening first more is =
    let closes = lines_close opening.limits cut 1 (first_stage opening.form) unplayed more in
    record {
      end = closes.0;
      is = ap (λ (o : Option Opening). by_opening cut o more) is ∙ closes.1;
      history = session_law opening.limits (session_lines (first_stage opening.form) more);
    }
