-- A replay of a generated session writes the transcript of its journal.
use Rattle.std.proofs.Common.{◌≡◌, ℕ, zero, suc, ◌+◌, ◌*◌, ◌≤◌, List, [], ◌∷◌, ◌++◌, length, map, Some, refl, sym, ap, subst, ◌∙◌, arith, length-append}
use Rattle.std.specs.Prelude.{codes}
use Rattle.std.proofs.lemmas.List.{map-append}
use Rattle.std.specs.List.{AllByRecursion}
use Rattle.std.specs.Fmt.{digits}
use Rattle.session_text.specs.declared.line.Form.TheVariants.{Session, Session2}
use Rattle.session_text.specs.declared.line.Line.TheVariants as line
use Rattle.session_text.specs.declared.line.SessionLine.{SessionLine}
use Rattle.session_text.specs.Grammar.{spelling}
use Rattle.session_text.specs.Reading.{line_of}
use Rattle.session_text.specs.SessionGrammar.{HasSessionLine}
use Rattle.session_text.specs.SessionReading.{one_session_word}
use Rattle.session_text.specs.Steps.{step_line}
use Rattle.session_text.proofs.LinesReadBack.{reads_each}
use Rattle.session_text.proofs.SpelledSteps.{old_line, session_parts}
use Rattle.seat_set.specs.Printing.{unstamped}
use Rattle.broker_model.proofs.EachElement.{each_append}
use Rattle.seat_set.specs.Laws.{lines_played, unplayed}
use Rattle.session_gen.specs.Generated.{step_count}
use Rattle.program_gen.specs.Counts.{counts_of}
use Rattle.program_gen.specs.Journals.{limits, journal_of, step_at}
use Rattle.program_gen.specs.Laws.{lines_up_to, LinesReplay}
use Rattle.program_gen.specs.Texts.{text_up_to, text_of, step_text}
use Rattle.program_run.specs.declared.reading.TheConstants.{INPUT_LIMIT}
use Rattle.program_run.specs.declared.session_line.Meaning.TheVariants as meaning
use Rattle.program_run.specs.Lines.{lines_of, bytes_of, size_of}
use Rattle.program_run.specs.Reading.{LackFeeds}
use Rattle.program_run.specs.Session.{first_stage, header_of, header_of_line, meaning_of, meaning_of_line, opening_by, opening_of}
use Rattle.program_run.proofs.InputSplits.{bytes_both, lack_both, length_of}
use Rattle.law_record.specs.GeneratedLaw.{GeneratedReplays}
use Rattle.law_record.specs.RecordedLines.{StampedLine, played_lines}
use Rattle.law_record.proofs.GeneratedLines.{has_line}
use Rattle.law_record.proofs.LinesAnswered.{AreMeant, behind, lines_back, replays_to}
use Rattle.law_record.proofs.LinesLackFeeds.{lacks_feed, old_lacks}

-- a line of form 1, with the stamp of nothing known

abbrev old_spelled : StampedLine → List ℕ
old_spelled l = spelling Session (line.Session l.1)

abbrev without_stamp : SessionLine → StampedLine
without_stamp l = (unstamped, l)

abbrev lines_made : ℕ → ℕ → List StampedLine
lines_made n made = map without_stamp (lines_up_to n made)

abbrev first : List ℕ
first = codes "session 1 1000000 65536"

lines_next : (n made : ℕ) → lines_up_to n (suc made) ≡ lines_up_to n made ++ step_line (step_at n made) ∷ []
unfolding lines_up_to
lines_next n made = refl

lines_none : (n : ℕ) → lines_up_to n 0 ≡ []
unfolding lines_up_to
lines_none n = refl

-- each has a line, and there are as many as steps

abbrev HaveLines : List SessionLine → Type 0
HaveLines all = AllByRecursion HasSessionLine all

have_lines : (n made : ℕ) → HaveLines (lines_up_to n made)
have_lines n zero = subst HaveLines (sym (lines_none n)) tt
have_lines n (suc made) =
    subst HaveLines (sym (lines_next n made))
    (each_append HasSessionLine (lines_up_to n made) (step_line (step_at n made) ∷ []) (have_lines n made)
    (has_line n made, tt))

as_many : (n made : ℕ) → length (lines_up_to n made) ≡ made
as_many n zero = ap length (lines_none n)
as_many n (suc made) =
    let before = as_many n made in
    let next = ap length (lines_next n made) ∙ length-append (lines_up_to n made) (step_line (step_at n made) ∷ []) in
    omega (arith, before, next)

-- what they are

all_played : (all : List SessionLine) → played_lines (map without_stamp all) ≡ all
all_played [] = refl
all_played (l ∷ all) = ap (λ (rest : List SessionLine). l ∷ rest) (all_played all)

line_means : (l : SessionLine) → HasSessionLine l →
    meaning_of (first_stage Session) (old_spelled (without_stamp l)) ≡ meaning.Play unstamped l
unfolding meaning_of
line_means l h = ap (meaning_of_line 0) (reads_each Session (line.Session l) h)

end_means : meaning_of (first_stage Session) (codes "end") ≡ meaning.End
unfolding meaning_of line_of one_session_word
end_means = refl

lines_mean : (all : List SessionLine) → HaveLines all →
    AreMeant old_spelled (first_stage Session) (map without_stamp all)
lines_mean [] h = end_means
lines_mean (l ∷ all) h = (line_means l h.0, lines_mean all h.1)

-- the header

first_is : first ≡ spelling Session (line.Header limits)
unfolding digits
first_is = refl

opens : opening_of first ≡ Some (record { form = Session; limits = limits })
unfolding header_of
opens =
    let read : line_of Session first ≡ Some (line.Header limits) =
    ap (line_of Session) first_is
    ∙ reads_each Session (line.Header limits) ((omega arith, omega arith), (omega arith, omega arith), refl) in
    ap (λ o. opening_by (header_of_line o) (header_of_line (line_of Session2 first))) read

-- the text as lines

text_step : (n made : ℕ) → text_up_to n (suc made) ≡ text_up_to n made ++ step_text (step_at n made)
unfolding text_up_to
text_step n made = refl

text_first : (n : ℕ) → text_up_to n 0 ≡ codes "session 1 1000000 65536\n"
unfolding text_up_to
text_first n = refl

text_lines : (n made : ℕ) → text_up_to n made ≡ bytes_of (first ∷ map old_spelled (lines_made n made))
text_lines n zero =
    text_first n
    ∙ sym (ap (λ (all : List SessionLine). bytes_of (first ∷ map old_spelled (map without_stamp all))) (lines_none n))
text_lines n (suc made) =
    let l : SessionLine = step_line (step_at n made) in
    let before : List SessionLine = lines_up_to n made in
    let raws : List (List ℕ) = map old_spelled (map without_stamp before) in
    let raw : List ℕ = old_spelled (without_stamp l) in
    text_step n made
    ∙ ap (λ (t : List ℕ). t ++ step_text (step_at n made)) (text_lines n made)
    ∙ sym (bytes_both (first ∷ raws) (raw ∷ []))
    ∙ ap (λ (rest : List (List ℕ)). bytes_of (first ∷ rest))
    (sym (ap (λ (all : List SessionLine). map old_spelled (map without_stamp all)) (lines_next n made)
    ∙ ap (map old_spelled) (map-append without_stamp before (l ∷ []))
    ∙ map-append old_spelled (map without_stamp before) (without_stamp l ∷ [])))

text_whole : (n : ℕ) → text_of n ≡ text_up_to n step_count ++ codes "end\n"
unfolding text_of
text_whole n = refl

abbrev all_lines : ℕ → List (List ℕ)
all_lines n = first ∷ behind old_spelled (lines_made n step_count)

text_is : (n : ℕ) → text_of n ≡ bytes_of (all_lines n)
text_is n =
    let raws : List (List ℕ) = map old_spelled (lines_made n step_count) in
    text_whole n ∙ ap (λ (t : List ℕ). t ++ codes "end\n") (text_lines n step_count)
    ∙ sym (bytes_both (first ∷ raws) (codes "end" ∷ []))

lines_lack : (all : List SessionLine) → HaveLines all → LackFeeds (map old_spelled (map without_stamp all))
lines_lack [] h = tt
lines_lack (l ∷ all) h = (old_lacks l h.0, lines_lack all h.1)

all_lack : (n : ℕ) → LackFeeds (all_lines n)
all_lack n = (
  lacks_feed first refl,
  lack_both (map old_spelled (lines_made n step_count)) (codes "end" ∷ [])
      (lines_lack (lines_up_to n step_count) (have_lines n step_count)) (lacks_feed (codes "end") refl, tt),
)

-- how long it is

lines_short : (all : List SessionLine) → HaveLines all →
    size_of (map old_spelled (map without_stamp all) ++ codes "end" ∷ []) ≤ 8401 * length all + 4
lines_short [] h = omega arith
lines_short (l ∷ all) h =
    let one = (session_parts l (old_line l h.0)).within in
    let rest = lines_short all h.1 in
    omega (arith, one, rest)

text_short : (n : ℕ) → length (text_of n) ≤ INPUT_LIMIT
text_short n =
    let long = ap length (text_is n) ∙ length_of (all_lines n) in
    let short = lines_short (lines_up_to n step_count) (have_lines n step_count) in
    let many = as_many n step_count in
    omega (arith, long, short, many)

entries_are : (n : ℕ) → (counts_of n).entries ≡ length (journal_of n step_count)
unfolding counts_of
entries_are n = refl

pub generated_replays : LinesReplay → GeneratedReplays
generated_replays lines_replay n =
    let all : List SessionLine = lines_up_to n step_count in
    let leads = lines_replay n in
    let same = all_played all in (
      replays_to Session limits (text_of n) first old_spelled (map without_stamp all) (journal_of n step_count)
          (record {
            few = text_short n;
            lines = λ cut. ap (lines_of cut) (text_is n) ∙ lines_back cut (all_lines n) (all_lack n);
            opening = opens;
            meant = lines_mean all (have_lines n step_count);
            goes = ap (λ (ls : List SessionLine). (lines_played limits ls unplayed).is_full) same ∙ leads.0;
            leads = ap (λ (ls : List SessionLine). (lines_played limits ls unplayed).play.journal) same ∙ leads.1;
          }),
      entries_are n,
    )
