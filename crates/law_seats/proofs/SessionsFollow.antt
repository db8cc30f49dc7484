-- What a session writes from a seat on, by the next line.
use Rattle.std.proofs.Common.{◌≡◌, ℕ, ◌+◌, Bool, true, false, List, [], ◌∷◌, ◌++◌, length, Option, Some, None, refl, sym, ap, ◌∙◌}
use Rattle.std.specs.Prelude.{codes, if◌then◌else◌}
use Rattle.broker_steps.specs.declared.limits.Limits.{Limits}
use Rattle.broker_model.specs.declared.journal.Kept.{Kept}
use Rattle.broker_model.specs.Limits.{number_counted}
use Rattle.session_text.specs.declared.line.Form.TheVariants.{Session}
use Rattle.session_text.specs.declared.line.Line.TheVariants as line
use Rattle.session_text.specs.declared.line.SessionLine.{SessionLine}
use Rattle.session_text.specs.Reading.{line_of}
use Rattle.session_text.specs.SessionReading.{one_session_word}
use Rattle.lines_transcript.specs.Printing.{unstamped}
use Rattle.lines_transcript.specs.Printed.{IsFront}
use Rattle.lines_transcript.specs.Transcribed.{journal_text}
use Rattle.seat_set.specs.Played.{Play, Played, line_played}
use Rattle.seat_set.specs.Seats.{Seat, seat_after, seat_by, seat_said}
use Rattle.seat_set.proofs.SeatsBegun.{same_limits, seat_grows}
use Rattle.program_run.specs.declared.last_line.LastLine.TheVariants as last
use Rattle.program_run.specs.declared.session_line.Meaning.{Meaning}
use Rattle.program_run.specs.declared.session_line.Meaning.TheVariants as meaning
use Rattle.program_run.specs.declared.session_line.Stage.{Stage}
use Rattle.program_run.specs.Endings.{Answer, ending}
use Rattle.program_run.specs.Session.{by_meaning, closed, first_stage, meaning_of, meaning_of_line, next_stage, session_from}
use Rattle.program_run.proofs.SessionLines.{begins, text_grows}
use Rattle.law_seats.proofs.SeatsTexts.{own_ending}

abbrev pub stage : Stage
stage = first_stage Session

-- the answer for the lines that are left of a session, from what was played; where its journal was full none is played
abbrev pub answer_with : Option Kept → Limits → Play → ℕ → List (List ℕ) → Answer
answer_with None limits play n lines = session_from limits false n stage play lines
answer_with (Some kept) limits play n lines = closed limits play (ending (last.Full kept.entries))

abbrev pub answer_after : Seat → ℕ → List (List ℕ) → Answer
answer_after seat n lines = answer_with seat.full seat.limits seat.play n lines

-- the transcript so far
abbrev pub text_of : Seat → List ℕ
text_of seat = journal_text seat.limits.store seat.play.journal

means_play : (raw : List ℕ) (found : SessionLine) → line_of Session raw ≡ Some (line.Session found)
    → meaning_of stage raw ≡ meaning.Play unstamped found
unfolding meaning_of
means_play raw found is = ap (meaning_of_line 0) is

-- ---- one line more

by_kept : (limits : Limits) (p : Played) (n : ℕ) (more : List (List ℕ)) (b : Bool) → p.is_full ≡ b
    → (if b then closed limits p.play (ending (last.Full (number_counted p.play.journal)))
    else session_from limits false n stage p.play more)
    ≡ answer_after (seat_by limits p) n more
by_kept limits p n more true is = rw is refl
by_kept limits p n more false is = rw is refl

with_line : (full : Option Kept) (limits : Limits) (play : Play) (n : ℕ) (raw : List ℕ) (found : SessionLine)
    (more : List (List ℕ))
    → line_of Session raw ≡ Some (line.Session found)
    → answer_with full limits play n (raw ∷ more)
    ≡ answer_after (seat_after found (record { limits = limits; play = play; full = full })) (n + 1) more
unfolding session_from
with_line None limits play n raw found more is =
    ap (λ (m : Meaning). by_meaning limits n play m
    (λ stamp next. session_from limits false (n + 1) (next_stage stage stamp) next more)) (means_play raw found is)
    ∙ by_kept limits (line_played limits found play) (n + 1) more (line_played limits found play).is_full refl
with_line (Some kept) limits play n raw found more is = refl

pub next_line : (seat : Seat) (n : ℕ) (raw : List ℕ) (found : SessionLine) (more : List (List ℕ))
    → line_of Session raw ≡ Some (line.Session found)
    → answer_after seat n (raw ∷ more) ≡ answer_after (seat_after found seat) (n + 1) more
next_line seat n raw found more is = with_line seat.full seat.limits seat.play n raw found more is

-- ---- the end

end_means : meaning_of stage (codes "end") ≡ meaning.End
unfolding meaning_of line_of one_session_word
end_means = refl

with_end : (full : Option Kept) (limits : Limits) (play : Play) (n : ℕ)
    → (answer_with full limits play n (codes "end" ∷ [])).0 ≡ journal_text limits.store play.journal ++
    own_ending full (length play.journal)
unfolding session_from
with_end None limits play n =
    ap (λ (m : Meaning).
    (by_meaning limits n play m
    (λ stamp next. session_from limits false (n + 1) (next_stage stage stamp) next [])).0) end_means
with_end (Some kept) limits play n = refl

pub at_end : (seat : Seat) (n : ℕ) → (answer_after seat n (codes "end" ∷ [])).0 ≡ text_of seat ++
    own_ending seat.full (length seat.play.journal)
at_end seat n = with_end seat.full seat.limits seat.play n

-- ---- the transcript grows

pub text_after : (line : SessionLine) (seat : Seat) →
    text_of (seat_after line seat) ≡ text_of seat ++ seat_said line seat
text_after line seat =
    ap (λ (l : Limits). journal_text l.store (seat_after line seat).play.journal) (same_limits line seat)
    ∙ text_grows seat.limits.store seat.play.journal (seat_after line seat).play.journal (seat_grows line seat)

-- and stands before every answer

front_with : (full : Option Kept) (limits : Limits) (play : Play) (n : ℕ) (lines : List (List ℕ))
    → IsFront (journal_text limits.store play.journal) (answer_with full limits play n lines).0
front_with None limits play n lines =
    let (rest, is) = begins limits false n stage play lines in (rest.0, sym (ap (λ (a : Answer). a.0) is))
front_with (Some kept) limits play n lines = ((ending (last.Full kept.entries)).0, refl)

pub text_first : (seat : Seat) (n : ℕ) (lines : List (List ℕ)) → IsFront (text_of seat) (answer_after seat n lines).0
text_first seat n lines = front_with seat.full seat.limits seat.play n lines
