-- A recorded session is read as the lines of its steps.
use Rattle.std.proofs.Common.{◌≡◌, ℕ, ◌^◌, ◌<◌, ◌≤◌, List, [], ◌∷◌, ◌++◌, drop, length, map, max, Bool, true, false, Option, Some, None, refl, sym, ap, subst, ◌∙◌, arith, append_assoc}
use Rattle.std.specs.Prelude.{if◌then◌else◌, codes, nat_le}
use Rattle.std.proofs.lemmas.List.{map-append}
use Rattle.std.specs.List.{AllByRecursion, flat_map}
use Rattle.std.proofs.lemmas.Bool.{le-leb, le-ltb}
use Rattle.broker_steps.specs.declared.limits.Limits.{Limits}
use Rattle.broker_steps.specs.declared.stamp.Stamp.{Stamp}
use Rattle.broker_steps.specs.declared.step.ShellStep.TheVariants as shells
use Rattle.broker_steps.specs.declared.step.PeerStep.TheVariants as peers
use Rattle.broker_steps.specs.declared.step.Step.{Step}
use Rattle.broker_steps.specs.declared.step.Step.TheVariants as steps
use Rattle.broker_steps.specs.Ranges.{IsLimits}
use Rattle.session_text.specs.declared.line.Form.TheVariants.{Session, Session2}
use Rattle.session_text.specs.declared.line.Line.{Line}
use Rattle.session_text.specs.declared.line.Line.TheVariants as line
use Rattle.session_text.specs.declared.line.SessionLine.{SessionLine}
use Rattle.session_text.specs.Reading.{line_of, line_limit, line_of_words}
use Rattle.session_text.specs.SessionGrammar.{HasStampedLine, IsStamp}
use Rattle.session_text.specs.SessionReading.{five_shell_words}
use Rattle.session_text.specs.StampedReading.{session_2_of}
use Rattle.session_text.specs.Steps.{step_line}
use Rattle.session_text.proofs.LinesReadBack.{reads_each}
use Rattle.session_text.proofs.SpelledStamps.{long_header_parts}
use Rattle.broker_model.specs.declared.journal.Entry.{Entry}
use Rattle.broker_model.specs.Stamps.{latest, said_moment, follows, newest, stamp_of, stamps}
use Rattle.broker_core.specs.Broker.{entry_of}
use Rattle.serve_record.specs.Recorded.{entry_lines, text_line, steps_text, recorded}
use Rattle.program_run.specs.declared.session_line.Meaning.TheVariants as meaning
use Rattle.program_run.specs.declared.session_line.Stage.{Stage}
use Rattle.program_run.specs.Lines.{lines_of, bytes_of}
use Rattle.program_run.specs.Reading.{LackFeeds}
use Rattle.program_run.specs.Session.{meaning_of, meaning_of_line, header_of, header_of_line, opening_by, opening_of}
use Rattle.program_run.proofs.InputSplits.{lack_both, bytes_both}
use Rattle.law_record.specs.Legal.{journal_of, AreLegal, IsLegalSession}
use Rattle.law_record.specs.RecordedLines.{StampedLine, lines_in, spelled, header, IsReadBack}
use Rattle.law_record.specs.RecordLaws.{lines_of_steps, stamps_of, RecordedIsRead}
use Rattle.law_record.proofs.StepsRecorded.{stamp_at, goes_first, one_more_step}
use Rattle.law_record.proofs.LinesAnswered.{AreMeant, lines_are, lines_back}
use Rattle.law_record.proofs.LinesLackFeeds.{lacks_feed, spelled_lacks, header_lacks}

-- ---- lines of form 2, whose moments don't fall

pub record IsLine (moment : ℕ) (l : StampedLine) : Type 0 where
  pub stamp : IsStamp l.0
  pub line : HasStampedLine l.1
  pub later : moment ≤ l.0.moment

-- those after a line at this moment
abbrev pub AreLines : ℕ → List StampedLine → Type 0
AreLines moment [] = Unit {0}
AreLines moment (l ∷ rest) = IsLine moment l × AreLines l.0.moment rest

-- the moment of the last
abbrev last_moment : ℕ → List StampedLine → ℕ
last_moment moment [] = moment
last_moment moment (l ∷ rest) = last_moment l.0.moment rest

lines_more : (moment : ℕ) (all : List StampedLine) (l : StampedLine) → AreLines moment all →
    IsLine (last_moment moment all) l → AreLines moment (all ++ l ∷ [])
lines_more moment [] l h k = (k, tt)
lines_more moment (x ∷ all) l h k = (h.0, lines_more x.0.moment all l h.1 k)

last_more : (moment : ℕ) (all : List StampedLine) (l : StampedLine) → last_moment moment (all ++ l ∷ []) ≡ l.0.moment
last_more moment [] l = refl
last_more moment (x ∷ all) l = last_more x.0.moment all l

-- ---- the lines of a recorded session are such

newest_stamp : (given : List Stamp) → AllByRecursion IsStamp given → IsStamp (newest given)
newest_stamp [] h = (omega arith, omega arith)
newest_stamp (s ∷ given) h = h.0

pub other_stamps : (given : List Stamp) → AllByRecursion IsStamp given → AllByRecursion IsStamp (drop 1 given)
other_stamps [] h = tt
other_stamps (s ∷ given) h = h.1

moment_said : (step : Step) → HasStampedLine (step_line step) → said_moment (entry_of step) < 2 ^ 64
moment_said (steps.Join role) h = omega arith
moment_said (steps.Peer q (peers.Message id opcode body)) h = omega arith
moment_said (steps.Peer q (peers.BadSize head)) h = omega arith
moment_said (steps.Peer q (peers.Tokens tokens)) h = omega arith
moment_said (steps.Peer q peers.Gone) h = omega arith
moment_said (steps.Shell (shells.Focus p i)) h = omega arith
moment_said (steps.Shell shells.Unfocus) h = omega arith
moment_said (steps.Shell (shells.Area p i r)) h = omega arith
moment_said (steps.Shell (shells.Screen z)) h = omega arith
moment_said (steps.Shell (shells.Key time key state)) h = omega arith
moment_said (steps.Shell (shells.Mods mods)) h = omega arith
moment_said (steps.Shell (shells.Keymap keymap)) h = omega arith
moment_said (steps.Shell (shells.Repeat repeat)) h = omega arith
moment_said (steps.Shell (shells.At moment)) h = h
moment_said (steps.Take q n) h = omega arith

stamp_is : (e : Entry) (given : Stamp) (older : List Stamp) → follows e ≡ false →
    stamp_of e given older ≡ record {
      moment = max given.moment (max (said_moment e) (latest older));
      author = given.author;
    }
stamp_is e given older h = rw h refl

line_is : (step : Step) (given : Stamp) (older : List Stamp) → IsStamp given → latest older < 2 ^ 64 →
    HasStampedLine (step_line step) →
    IsLine (latest older) (stamp_of (entry_of step) given older, step_line step)
line_is step given older s small h =
    let said = moment_said step h in
    let is = stamp_is (entry_of step) given older (goes_first step) in
    let (moment, author) = s in
    subst (λ (stamp : Stamp). IsLine (latest older) (stamp, step_line step)) (sym is)
    (record { stamp = (omega (arith, said, moment, small), author); line = h; later = omega arith })

record AreRecorded (all : List StampedLine) (stamps : List Stamp) : Type 0 where
  lines : AreLines 0 all
  last : last_moment 0 all ≡ latest stamps
  small : latest stamps < 2 ^ 64

are_recorded : (limits : Limits) (steps : List Step) (given : List Stamp) → AreLegal limits steps →
    AllByRecursion IsStamp given → AreRecorded (lines_of_steps limits steps given) (stamps_of limits steps given)
are_recorded limits [] given legal stamped = record { lines = tt; last = refl; small = omega arith }
are_recorded limits (step ∷ older) given legal stamped =
    let journal : List Entry = journal_of limits older in
    let all : List StampedLine = lines_of_steps limits older (drop 1 given) in
    let l : StampedLine = (stamp_at step journal given, step_line step) in
    let before = are_recorded limits older (drop 1 given) legal.1 (other_stamps given stamped) in
    let more = one_more_step step limits.store journal given in
    let line : IsLine (latest (stamps_of limits older (drop 1 given))) l =
    line_is step (newest given) (stamps_of limits older (drop 1 given)) (newest_stamp given stamped) before.small
    legal.0.line in
    record {
      lines = subst (AreLines 0) (sym more.lines)
          (lines_more 0 all l before.lines (subst (λ (m : ℕ). IsLine m l) (sym before.last) line));
      last = ap (last_moment 0) more.lines ∙ last_more 0 all l ∙ sym more.moment;
      small = subst (λ (m : ℕ). m < 2 ^ 64) (sym more.moment) line.stamp.0;
    }

-- the line of the newest step
pub last_line_is : (limits : Limits) (step : Step) (older : List Step) (given : List Stamp) →
    AreLegal limits (step ∷ older) → AllByRecursion IsStamp given →
    IsLine (latest (stamps_of limits older (drop 1 given)))
    (stamp_at step (journal_of limits older) given, step_line step)
last_line_is limits step older given legal stamped =
    line_is step (newest given) (stamps_of limits older (drop 1 given)) (newest_stamp given stamped)
    (are_recorded limits older (drop 1 given) legal.1 (other_stamps given stamped)).small legal.0.line

-- ---- the text as lines

entry_text : (s : Stamp) (found : List SessionLine) →
    flat_map (λ (l : SessionLine). text_line (line.Stamped s l)) found
    ≡ bytes_of (map spelled (map (λ (l : SessionLine). (s, l)) found))
entry_text s [] = refl
entry_text s (l ∷ found) =
    ap (λ (t : List ℕ). text_line (line.Stamped s l) ++ t) (entry_text s found)
    ∙ append_assoc (spelled (s, l)) (10 ∷ []) (bytes_of (map spelled (map (λ (x : SessionLine). (s, x)) found)))

steps_lines : (journal : List Entry) (stamps : List Stamp) →
    steps_text journal stamps ≡ bytes_of (map spelled (lines_in journal stamps))
steps_lines [] stamps = refl
steps_lines (e ∷ older) [] = refl
steps_lines (e ∷ older) (s ∷ before) =
    let all : List StampedLine = lines_in older before in
    let own : List StampedLine = map (λ (l : SessionLine). (s, l)) (entry_lines e) in
    ap (λ (t : List ℕ). t ++ flat_map (λ (l : SessionLine). text_line (line.Stamped s l)) (entry_lines e))
    (steps_lines older before)
    ∙ ap (λ (t : List ℕ). bytes_of (map spelled all) ++ t) (entry_text s (entry_lines e))
    ∙ sym (bytes_both (map spelled all) (map spelled own))
    ∙ ap bytes_of (sym (map-append spelled all own))

abbrev pub all_lines : Limits → List StampedLine → List (List ℕ)
all_lines limits all = header limits ∷ (map spelled all ++ codes "end" ∷ [])

pub text_is : (limits : Limits) (journal : List Entry) (stamps : List Stamp) →
    recorded limits journal stamps ≡ bytes_of (all_lines limits (lines_in journal stamps))
text_is limits journal stamps =
    let all : List (List ℕ) = map spelled (lines_in journal stamps) in
    append_assoc (header limits) (10 ∷ []) (steps_text journal stamps ++ codes "end\n")
    ∙ ap (λ (t : List ℕ). header limits ++ 10 ∷ (t ++ codes "end\n")) (steps_lines journal stamps)
    ∙ ap (λ (t : List ℕ). header limits ++ 10 ∷ t) (sym (bytes_both all (codes "end" ∷ [])))

spelled_lack : (moment : ℕ) (all : List StampedLine) → AreLines moment all → LackFeeds (map spelled all)
spelled_lack moment [] h = tt
spelled_lack moment (l ∷ all) h = (spelled_lacks l h.0.stamp h.0.line, spelled_lack l.0.moment all h.1)

pub text_lines : (cut : Bool) (limits : Limits) (journal : List Entry) (stamps : List Stamp) → IsLimits limits →
    AreLines 0 (lines_in journal stamps) →
    lines_of cut (recorded limits journal stamps) ≡ all_lines limits (lines_in journal stamps)
text_lines cut limits journal stamps limited h =
    let all : List StampedLine = lines_in journal stamps in
    let lines : List (List ℕ) = all_lines limits all in
    let lack : LackFeeds lines = (
      header_lacks limits limited,
      lack_both (map spelled all) (codes "end" ∷ []) (spelled_lack 0 all h) (lacks_feed (codes "end") refl, tt),
    ) in
    ap (lines_of cut) (text_is limits journal stamps) ∙ lines_back cut lines lack

-- ---- what each line is

read_back : (moment : ℕ) (l : StampedLine) → IsLine moment l → IsReadBack l
read_back moment l h = reads_each Session2 (line.Stamped l.0 l.1) (h.stamp, h.line)

all_read_back : (moment : ℕ) (all : List StampedLine) → AreLines moment all → AllByRecursion IsReadBack all
all_read_back moment [] h = tt
all_read_back moment (l ∷ all) h = (read_back moment l h.0, all_read_back l.0.moment all h.1)

-- behind a line of form 2 at this moment
abbrev pub stage_at : ℕ → Stage
stage_at moment = record { form = Session2; moment = moment }

line_means : (moment : ℕ) (l : StampedLine) → IsLine moment l →
    meaning_of (stage_at moment) (spelled l) ≡ meaning.Play l.0 l.1
unfolding meaning_of
line_means moment l h =
    ap (meaning_of_line moment) (read_back moment l h)
    ∙ ap (λ (b : Bool). if b then meaning.Bad else meaning.Play l.0 l.1) (le-ltb l.0.moment moment h.later)

end_means : (moment : ℕ) → meaning_of (stage_at moment) (codes "end") ≡ meaning.End
unfolding meaning_of line_of session_2_of
end_means moment = refl

pub lines_mean : (moment : ℕ) (all : List StampedLine) → AreLines moment all → AreMeant spelled (stage_at moment) all
lines_mean moment [] h = end_means moment
lines_mean moment (l ∷ all) h = (line_means moment l h.0, lines_mean l.0.moment all h.1)

-- ---- the header

-- its five words are no line of form 1
no_old_line : (limits : Limits) → IsLimits limits → line_of Session (header limits) ≡ None
unfolding line_of five_shell_words
no_old_line limits h =
    let known = long_header_parts limits h in
    let within : nat_le (length (header limits)) line_limit ≡ true =
    le-leb (length (header limits)) line_limit known.within in
    rw within (ap (line_of_words Session) known.split)

pub opens : (limits : Limits) → IsLimits limits →
    opening_of (header limits) ≡ Some (record { form = Session2; limits = limits })
unfolding header_of
opens limits h =
    ap (λ (o : Option Line). opening_by (header_of_line o) (header_of_line (line_of Session2 (header limits))))
    (no_old_line limits h)
    ∙ ap (λ (o : Option Line). opening_by None (header_of_line o)) (reads_each Session2 (line.Header limits) h)

-- ---- the law

pub lines_recorded : (limits : Limits) (steps : List Step) (given : List Stamp) → IsLegalSession limits steps given →
    AreLines 0 (lines_of_steps limits steps given)
lines_recorded limits steps given h = (are_recorded limits steps given h.legal h.stamped).lines

pub recorded_is_read : RecordedIsRead
recorded_is_read limits steps given h =
    let all : List StampedLine = lines_of_steps limits steps given in
    let lines = lines_recorded limits steps given h in
    record {
      lines = λ cut. text_lines cut limits (journal_of limits steps) (stamps_of limits steps given) h.limited lines;
      opening = opens limits h.limited;
      read_back = all_read_back 0 all lines;
      played = lines_are spelled (stage_at 0) all (lines_mean 0 all lines);
    }
