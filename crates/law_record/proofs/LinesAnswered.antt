-- What is answered for the lines of a session that are all read, and of which none meets a full journal.
use Rattle.std.proofs.Common.{◌≡◌, ℕ, ◌+◌, ◌≤◌, List, [], ◌∷◌, ◌++◌, length, map, Bool, true, false, Option, Some, refl, sym, ap, ◌∙◌, append-nil}
use Rattle.std.specs.Prelude.{if◌then◌else◌, codes}
use Rattle.std.proofs.lemmas.List.{take_all}
use Rattle.broker_steps.specs.declared.limits.Limits.{Limits}
use Rattle.session_text.specs.declared.line.Form.{Form}
use Rattle.session_text.specs.declared.line.SessionLine.{SessionLine}
use Rattle.broker_model.specs.declared.journal.Entry.{Entry}
use Rattle.broker_model.specs.Limits.{number_counted}
use Rattle.seat_set.specs.Played.{Play, Played, line_played}
use Rattle.seat_set.specs.Laws.{lines_played, unplayed}
use Rattle.program_run.specs.declared.last_line.LastLine.TheVariants as last
use Rattle.program_run.specs.declared.reading.TheConstants.{INPUT_LIMIT}
use Rattle.program_run.specs.declared.session_line.Meaning.{Meaning}
use Rattle.program_run.specs.declared.session_line.Meaning.TheVariants as meaning
use Rattle.program_run.specs.declared.session_line.Opening.{Opening}
use Rattle.program_run.specs.declared.session_line.Stage.{Stage}
use Rattle.program_run.specs.Endings.{Answer, ending}
use Rattle.program_run.specs.Lines.{lines_of, lines_read, is_cut, taken, bytes_of}
use Rattle.program_run.specs.Reading.{LackFeeds}
use Rattle.program_run.specs.Migrates.{replay}
use Rattle.program_run.specs.Replayed.{lines_by, session_lines}
use Rattle.program_run.specs.Run.{answer_by, status_of, output_of}
use Rattle.program_run.specs.Session.{closed, by_meaning, by_opening, first_stage, meaning_of, next_stage, opening_of, session_answer, session_from, session_of_lines}
use Rattle.program_run.proofs.InputSplits.{lines_front, lines_nil}
use Rattle.law_record.specs.RecordedLines.{StampedLine, played_lines}
use Rattle.law_record.specs.RecordLaws.{ReplaysTo}

-- each line is read where it comes, and behind them the end
abbrev pub AreMeant : (spell : StampedLine → List ℕ) → Stage → List StampedLine → Type 0
AreMeant spell stage [] = meaning_of stage (codes "end") ≡ meaning.End
AreMeant spell stage (l ∷ all) =
    (meaning_of stage (spell l) ≡ meaning.Play l.0 l.1) × AreMeant spell (next_stage stage l.0) all

-- the lines behind the header
abbrev pub behind : (spell : StampedLine → List ℕ) → List StampedLine → List (List ℕ)
behind spell all = map spell all ++ codes "end" ∷ []

pub lines_are : (spell : StampedLine → List ℕ) (stage : Stage) (all : List StampedLine) → AreMeant spell stage all →
    session_lines stage (behind spell all) ≡ played_lines all
lines_are spell stage [] h = ap (λ (m : Meaning). lines_by m (λ stamp. session_lines (next_stage stage stamp) [])) h
lines_are spell stage (l ∷ all) h =
    ap (λ (m : Meaning). lines_by m (λ stamp. session_lines (next_stage stage stamp) (behind spell all))) h.0
    ∙ ap (λ (rest : List SessionLine). l.1 ∷ rest) (lines_are spell (next_stage stage l.0) all h.1)

-- the lines of a text are found in it
pub lines_back : (cut : Bool) (lines : List (List ℕ)) → LackFeeds lines → lines_of cut (bytes_of lines) ≡ lines
lines_back cut lines lack =
    ap (lines_of cut) (sym (append-nil (bytes_of lines))) ∙ lines_front cut lines [] lack
    ∙ ap (λ (l : List (List ℕ)). lines ++ l) (lines_nil cut) ∙ append-nil lines

-- what is answered for what was played up to the end
abbrev ended : Limits → Play → Answer
ended limits play = closed limits play (ending (last.End (length play.journal)))

answered : (spell : StampedLine → List ℕ) (limits : Limits) (cut : Bool) (n : ℕ) (stage : Stage) (play : Play)
    (all : List StampedLine) → AreMeant spell stage all →
    (lines_played limits (played_lines all) play).is_full ≡ false →
    session_from limits cut n stage play (behind spell all)
    ≡ ended limits (lines_played limits (played_lines all) play).play
unfolding session_from
answered spell limits cut n stage play [] h f =
    ap (λ (m : Meaning). by_meaning limits n play m
    (λ stamp next. session_from limits cut (n + 1) (next_stage stage stamp) next [])) h
answered spell limits cut n stage play (l ∷ all) h f =
    ap (λ (m : Meaning). by_meaning limits n play m
    (λ stamp next. session_from limits cut (n + 1) (next_stage stage stamp) next (behind spell all))) h.0
    ∙ by p.is_full refl f (answered spell limits cut (n + 1) (next_stage stage l.0) p.play all h.1)
  where
    p : Played
    p = line_played limits l.1 play

    rest : Played
    rest = lines_played limits (played_lines all) p.play

    later : Answer
    later = session_from limits cut (n + 1) (next_stage stage l.0) p.play (behind spell all)

    by : (b : Bool) → p.is_full ≡ b → (if b then p else rest).is_full ≡ false →
        (rest.is_full ≡ false → later ≡ ended limits rest.play) →
        (if b then closed limits p.play (ending (last.Full (number_counted p.play.journal))) else later)
        ≡ ended limits (if b then p else rest).play
    by true e g k = (let no = sym e ∙ g in cc)
    by false e g k = k g

-- what `replay` answers for an input
replayed : List ℕ → Answer
replayed bytes = session_of_lines (is_cut INPUT_LIMIT bytes) (lines_read INPUT_LIMIT bytes)

replay_is : (bytes : List ℕ) → ((output_of replay bytes, status_of replay bytes) ≡ replayed bytes)
unfolding output_of status_of answer_by session_answer lines_read replayed
replay_is bytes = refl

whole_read : (bytes : List ℕ) → length bytes ≤ INPUT_LIMIT →
    replayed bytes ≡ session_of_lines (is_cut INPUT_LIMIT bytes) (lines_of (is_cut INPUT_LIMIT bytes) bytes)
unfolding replayed lines_read taken
whole_read bytes few =
    let cut : Bool = is_cut INPUT_LIMIT bytes in
    ap (λ (t : List ℕ). session_of_lines cut (lines_of cut t)) (take_all INPUT_LIMIT bytes few)

-- A text that falls into a header and lines that are read so, and which lead to a journal.
pub record IsSession (form : Form) (limits : Limits) (text first : List ℕ) (spell : StampedLine → List ℕ)
    (all : List StampedLine) (journal : List Entry) : Type 0 where
  pub few : length text ≤ INPUT_LIMIT
  pub lines : (cut : Bool) → lines_of cut text ≡ first ∷ behind spell all
  pub opening : opening_of first ≡ Some (record { form = form; limits = limits })
  pub meant : AreMeant spell (first_stage form) all
  pub goes : (lines_played limits (played_lines all) unplayed).is_full ≡ false
  pub leads : (lines_played limits (played_lines all) unplayed).play.journal ≡ journal

session_answered : (form : Form) (limits : Limits) (text first : List ℕ) (spell : StampedLine → List ℕ)
    (all : List StampedLine) (journal : List Entry) → IsSession form limits text first spell all journal →
    replayed text ≡ ended limits (record { journal = journal; unread = [] })
session_answered form limits text first spell all journal s =
    let cut : Bool = is_cut INPUT_LIMIT text in
    whole_read text s.few
    ∙ ap (session_of_lines cut) (s.lines cut)
    ∙ ap (λ (o : Option Opening). by_opening cut o (behind spell all)) s.opening
    ∙ answered spell limits cut 1 (first_stage form) unplayed all s.meant s.goes
    ∙ ap (λ (j : List Entry). ended limits (record { journal = j; unread = [] })) s.leads

pub replays_to : (form : Form) (limits : Limits) (text first : List ℕ) (spell : StampedLine → List ℕ)
    (all : List StampedLine) (journal : List Entry) → IsSession form limits text first spell all journal →
    ReplaysTo limits text journal
replays_to form limits text first spell all journal s =
    let is = replay_is text ∙ session_answered form limits text first spell all journal s in
    record { output = ap (λ (a : Answer). a.0) is; status = ap (λ (a : Answer). a.1) is }
