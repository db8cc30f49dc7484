-- What is written of a session that is migrated replays as that session does.
use Rattle.std.proofs.Common.{◌≡◌, ◌≢◌, ℕ, ◌+◌, ◌*◌, ◌<◌, ◌≤◌, Bool, true, false, eqb, not, List, [], ◌∷◌, ◌++◌, map, length, get_or, Option, Some, None, refl, sym, ap, ◌∙◌, subst, arith, append_assoc, append-nil, length-append}
use Rattle.std.specs.Prelude.{codes, if◌then◌else◌}
use Rattle.std.proofs.lemmas.Bool.{and_parts}
use Rattle.std.proofs.lemmas.List.Elements.{All-nil, All-cons, All-append}
use Rattle.broker_model.specs.Limits.{number_counted}
use Rattle.broker_steps.specs.declared.limits.Limits.{Limits}
use Rattle.broker_steps.specs.declared.stamp.Stamp.{Stamp}
use Rattle.broker_steps.specs.Ranges.{IsLimits}
use Rattle.seat_set.specs.Played.{Play, Played, line_played}
use Rattle.session_text.specs.declared.line.Form.TheVariants.{Session, Session2}
use Rattle.session_text.specs.declared.line.Line.{Line}
use Rattle.session_text.specs.declared.line.Line.TheVariants as line
use Rattle.session_text.specs.declared.line.SessionLine.{SessionLine}
use Rattle.session_text.specs.Grammar.{spelling}
use Rattle.session_text.specs.SessionGrammar.{long_header_words}
use Rattle.session_text.specs.SessionReading.{one_shell_word, one_session_word}
use Rattle.session_text.specs.StampedReading.{session_2_of}
use Rattle.lines_transcript.specs.Printing.{unstamped}
use Rattle.session_text.specs.Reading.{line_of}
use Rattle.session_text.proofs.LinesReadBack.{reads_each, reads_only}
use Rattle.session_text.proofs.LinesSplit.{lacks, IsOutside, decimal_lacks, join_lacks}
use Rattle.session_text.proofs.SpelledStamps.{long_header_parts}
use Rattle.lines_transcript.proofs.StampedSteps.{migrated_read}
use Rattle.wio_core.specs.Lines.{LacksFeed}
use Rattle.program_run.specs.declared.reading.TheConstants.{INPUT_LIMIT, MIGRATE_LIMIT}
use Rattle.program_run.specs.declared.last_line.LastLine.TheVariants as last
use Rattle.program_run.specs.declared.status.Status.TheVariants as status
use Rattle.program_run.specs.declared.session_line.Meaning.{Meaning}
use Rattle.program_run.specs.declared.session_line.Meaning.TheVariants as meaning
use Rattle.program_run.specs.declared.session_line.Stage.{Stage}
use Rattle.program_run.specs.Lines.{lines_of, lines_read, is_cut, bytes_of, size_of}
use Rattle.program_run.specs.Reading.{LackFeeds}
use Rattle.program_run.specs.Endings.{Answer, ending, without_end}
use Rattle.program_run.specs.Session.{closed, meaning_of, meaning_of_line, by_meaning, by_played, session_from, session_of_lines, session_answer, unplayed, first_stage, next_stage, header_of, header_of_line, opening_by, opening_of, by_opening}
use Rattle.program_run.specs.Migrating.{migrated_end, migrated_line, migrated_header, by_migrated, migrated_from, by_old_header, migrated_lines, migrated_answer}
use Rattle.program_run.specs.Run.{answer_by, status_of, output_of}
use Rattle.program_run.specs.Migrates.{migrate, replay, Migrates}
use Rattle.program_run.proofs.SessionLines.{header_set}
use Rattle.program_run.proofs.InputSplits.{lines_front, lines_nil, length_of, size_both, lack_both, bytes_both}
use Rattle.program_run.proofs.ReadLines.{input_ended}
use Rattle.program_run.proofs.WholeLines.{read_lacks, read_size, same_lines}

abbrev old : Stage
old = first_stage Session

abbrev new : Stage
new = first_stage Session2

-- a line in form 2
abbrev renewed : List ℕ → List ℕ
renewed raw = codes "0 0 " ++ raw

-- ---- the lines before the end

IsPlayed : List ℕ → Type 0
IsPlayed raw = (found : SessionLine) × (line_of Session raw ≡ Some (line.Session found))

AllPlayed : List (List ℕ) → Type 0
AllPlayed [] = Unit {0}
AllPlayed (raw ∷ lines) = IsPlayed raw × AllPlayed lines

-- only a line of form 1 is played in form 1
played_line : (raw : List ℕ) (stamp : Stamp) (found : SessionLine) (o : Option Line) → line_of Session raw ≡ o
    → meaning_of_line 0 o ≡ meaning.Play stamp found → IsPlayed raw
unfolding IsPlayed
played_line raw stamp found (Some (line.Session other)) is e = (other, is)
played_line raw stamp found (Some (line.Stamped given other)) is e =
    absurd (reads_only Session raw (line.Stamped given other) is).1
played_line raw stamp found None is e = absurd (cc e)
played_line raw stamp found (Some line.End) is e = absurd (cc e)
played_line raw stamp found (Some (line.Act act)) is e = absurd (cc e)
played_line raw stamp found (Some (line.Header limits)) is e = absurd (cc e)
played_line raw stamp found (Some (line.Shell step)) is e = absurd (cc e)

played_by : (raw : List ℕ) (stamp : Stamp) (found : SessionLine) → meaning_of old raw ≡ meaning.Play stamp found →
    IsPlayed raw
unfolding meaning_of
played_by raw stamp found e = played_line raw stamp found (line_of Session raw) refl e

-- such a line means the same in form 2, with the stamp of nothing known

means_old : (raw : List ℕ) (found : SessionLine) → line_of Session raw ≡ Some (line.Session found) →
    meaning_of old raw ≡ meaning.Play unstamped found
unfolding meaning_of
means_old raw found is = ap (meaning_of_line 0) is

means_new : (raw : List ℕ) (found : SessionLine) → line_of Session raw ≡ Some (line.Session found) →
    meaning_of new (renewed raw) ≡ meaning.Play unstamped found
unfolding meaning_of
means_new raw found is = ap (meaning_of_line 0) (migrated_read found raw is)

end_means : meaning_of new (codes "end") ≡ meaning.End
unfolding meaning_of line_of session_2_of
end_means = refl

-- it has a byte at least
played_some : (raw : List ℕ) → IsPlayed raw → 1 ≤ length raw
unfolding IsPlayed line_of one_session_word one_shell_word
played_some [] p = let none : line_of Session [] ≡ None = refl in absurd (cc (none, p.1))
played_some (x ∷ raw) p = omega arith

-- ---- what is written where the answer is Ok

texts : List (List ℕ) → List ℕ
texts [] = []
texts (raw ∷ lines) = migrated_line raw ++ texts lines

-- the lines up to the end, and what is written of them
record Written (lines : List (List ℕ)) (output : List ℕ) : Type 0 where
  front : List (List ℕ)
  end : List ℕ
  rest : List (List ℕ)
  split : lines ≡ front ++ end ∷ rest
  played : AllPlayed front
  ends : meaning_of old end ≡ meaning.End
  is : output ≡ texts front ++ codes "end\n"

long_or_missing : (cut : Bool) (n : ℕ) → (without_end cut n).1 ≡ status.Ok → ⊥
long_or_missing true n e = cc e
long_or_missing false n e = cc e

written_by : (cut : Bool) (n : ℕ) (raw : List ℕ) (lines : List (List ℕ)) (m : Meaning) → meaning_of old raw ≡ m
    → ((migrated_from cut (n + 1) lines).1 ≡ status.Ok → Written lines (migrated_from cut (n + 1) lines).0)
    → (by_migrated raw (migrated_end n m) (migrated_from cut (n + 1) lines)).1 ≡ status.Ok
    → Written (raw ∷ lines) (by_migrated raw (migrated_end n m) (migrated_from cut (n + 1) lines)).0
unfolding AllPlayed texts
written_by cut n raw lines (meaning.Play stamp found) is more ok =
    let later = more ok in
    record {
      front = raw ∷ later.front;
      end = later.end;
      rest = later.rest;
      split = ap (λ l. raw ∷ l) later.split;
      played = (played_by raw stamp found is, later.played);
      ends = later.ends;
      is = ap (λ t. migrated_line raw ++ t) later.is
          ∙ sym (append_assoc (migrated_line raw) (texts later.front) (codes "end\n"));
    }
written_by cut n raw lines meaning.End is more ok =
    record { front = []; end = raw; rest = lines; split = refl; played = tt; ends = is; is = refl }
written_by cut n raw lines meaning.Bad is more ok = absurd (cc ok)

written_of : (cut : Bool) (n : ℕ) (lines : List (List ℕ)) → (migrated_from cut n lines).1 ≡ status.Ok →
    Written lines (migrated_from cut n lines).0
unfolding migrated_from
written_of cut n [] ok = absurd (long_or_missing cut n ok)
written_of cut n (raw ∷ lines) ok =
    written_by cut n raw lines (meaning_of old raw) refl (λ more. written_of cut (n + 1) lines more) ok

-- as lines

texts_are : (front : List (List ℕ)) → texts front ≡ bytes_of (map renewed front)
unfolding texts
texts_are [] = refl
texts_are (raw ∷ front) =
    ap (λ t. codes "0 0 " ++ ((raw ++ 10 ∷ []) ++ t)) (texts_are front)
    ∙ ap (λ t. codes "0 0 " ++ t) (append_assoc raw (10 ∷ []) (bytes_of (map renewed front)))

-- ---- the lines of form 2 play as those of form 1

same_by : (limits : Limits) (p : Played) (f g : Play → Answer) → ((next : Play) → f next ≡ g next) →
    by_played limits p f ≡ by_played limits p g
same_by limits p f g same = by p.is_full
  where
    by : (b : Bool) →
        (if b then closed limits p.play (ending (last.Full (number_counted p.play.journal))) else f p.play)
        ≡ (if b then closed limits p.play (ending (last.Full (number_counted p.play.journal))) else g p.play)
    by true = refl
    by false = same p.play

plays_as : (limits : Limits) (cut cut' : Bool) (n : ℕ) (play : Play) (front : List (List ℕ)) (end : List ℕ)
    (rest : List (List ℕ)) → AllPlayed front
    → meaning_of old end ≡ meaning.End
    → session_from limits cut n old play (front ++ end ∷ rest)
    ≡ session_from limits cut' n new play (map renewed front ++ codes "end" ∷ [])
unfolding AllPlayed IsPlayed session_from
plays_as limits cut cut' n play [] end rest played ends =
    ap (λ m. by_meaning limits n play m
    (λ stamp next. session_from limits cut (n + 1) (next_stage old stamp) next rest)) ends
    ∙ sym (ap (λ m. by_meaning limits n play m
    (λ stamp next. session_from limits cut' (n + 1) (next_stage new stamp) next [])) end_means)
plays_as limits cut cut' n play (raw ∷ front) end rest played ends =
    let (found, is) = played.0 in
    ap (λ m. by_meaning limits n play m
    (λ stamp next. session_from limits cut (n + 1) (next_stage old stamp) next (front ++ end ∷ rest)))
    (means_old raw found is)
    ∙ same_by limits (line_played limits found play)
    (λ next. session_from limits cut (n + 1) (next_stage old unstamped) next (front ++ end ∷ rest))
    (λ next. session_from limits cut' (n + 1) (next_stage new unstamped) next (map renewed front ++ codes "end" ∷ []))
    (λ next. plays_as limits cut cut' (n + 1) next front end rest played.1 ends)
    ∙ sym (ap (λ m. by_meaning limits n play m (λ stamp next.
    session_from limits cut' (n + 1) (next_stage new stamp) next (map renewed front ++ codes "end" ∷ [])))
    (means_new raw found is))

-- ---- the header

header_spelled : (raw : List ℕ) (o : Option Line) → line_of Session raw ≡ o → (limits : Limits) →
    header_of_line o ≡ Some limits → raw ≡ spelling Session (line.Header limits)
header_spelled raw (Some (line.Header other)) is limits e =
    let same : other ≡ limits = cc in
    (reads_only Session raw (line.Header other) is).0 ∙ ap (λ (l : Limits). spelling Session (line.Header l)) same
header_spelled raw None is limits e = absurd (cc e)
header_spelled raw (Some line.End) is limits e = absurd (cc e)
header_spelled raw (Some (line.Act act)) is limits e = absurd (cc e)
header_spelled raw (Some (line.Session found)) is limits e = absurd (cc e)
header_spelled raw (Some (line.Stamped stamp found)) is limits e = absurd (cc e)
header_spelled raw (Some (line.Shell step)) is limits e = absurd (cc e)

abbrev new_header : Limits → List ℕ
new_header limits = spelling Session2 (line.Header limits)

-- a header of form 2 is none of form 1
no_old_header : (limits : Limits) → header_of Session (new_header limits) ≡ None
unfolding header_of
no_old_header limits =
    elim (header_of_line (line_of Session (new_header limits))) as
    (λ o. header_of_line (line_of Session (new_header limits)) ≡ o → o ≡ None) [
      | None ↦ λ e. refl
      | Some other ↦ λ e.
          let same = header_spelled (new_header limits) (line_of Session (new_header limits)) refl other e in
          let ninth : 50 ≡ 49 = ap (λ w. get_or w 8 0) same in absurd (omega (arith, ninth))
    ] refl

is_new_header : (limits : Limits) → IsLimits limits → header_of Session2 (new_header limits) ≡ Some limits
unfolding header_of
is_new_header limits h = ap header_of_line (reads_each Session2 (line.Header limits) h)

opens : (limits : Limits) → IsLimits limits →
    opening_of (new_header limits) ≡ Some (record { form = Session2; limits = limits })
opens limits h = rw (no_old_header limits, is_new_header limits h) refl

-- ---- no line that is written has a line feed

feed : IsOutside 10
feed = record { no_digit = λ h. omega arith; no_hex = refl; no_dash = refl }

lacks_feed : (w : List ℕ) → lacks 10 w ≡ true → LacksFeed w
lacks_feed [] h = All-nil (λ b. b ≢ 10)
lacks_feed (x ∷ w) h =
    let (first, others) = and_parts (not (eqb x 10)) (lacks 10 w) h in
    All-cons (λ b. b ≢ 10) x w (λ e. let same : eqb x 10 ≡ true = rw e refl in cc) (lacks_feed w others)

header_lacks : (limits : Limits) → IsLimits limits → LacksFeed (new_header limits)
header_lacks limits h =
    lacks_feed (new_header limits)
    (join_lacks 10 (long_header_words limits) refl (
      refl,
      (
        refl,
        (
          decimal_lacks 10 feed limits.entries (omega (arith, h.0.1)),
          (
            decimal_lacks 10 feed limits.store (omega (arith, h.1.1)),
            (decimal_lacks 10 feed limits.weight (omega (arith, h.2.1)), tt),
          ),
        ),
      ),
    ))

renewed_lack : (front : List (List ℕ)) → LackFeeds front → LackFeeds (map renewed front)
renewed_lack [] lack = tt
renewed_lack (raw ∷ front) lack = (
  All-append (λ b. b ≢ 10) (codes "0 0 ") raw (lacks_feed (codes "0 0 ") refl) lack.0,
  renewed_lack front lack.1,
)

-- ---- how long it is

renewed_size : (front : List (List ℕ)) → AllPlayed front → size_of (map renewed front) ≤ 3 * size_of front
unfolding AllPlayed
renewed_size [] played = omega arith
renewed_size (raw ∷ front) played =
    let some = played_some raw played.0 in
    let rest = renewed_size front played.1 in
    omega (arith, some, rest, length-append (codes "0 0 ") raw)

-- ---- what is written, as lines

new_lines : Limits → List (List ℕ) → List (List ℕ)
new_lines limits front = new_header limits ∷ (map renewed front ++ codes "end" ∷ [])

new_lack : (limits : Limits) (front : List (List ℕ)) → IsLimits limits → LackFeeds front →
    LackFeeds (new_lines limits front)
unfolding new_lines
new_lack limits front h lack = (
  header_lacks limits h,
  lack_both (map renewed front) (codes "end" ∷ []) (renewed_lack front lack) (lacks_feed (codes "end") refl, tt),
)

new_size : (limits : Limits) (front : List (List ℕ)) → IsLimits limits → AllPlayed front →
    size_of front ≤ MIGRATE_LIMIT + 1
    → length (bytes_of (new_lines limits front)) < INPUT_LIMIT
unfolding new_lines
new_size limits front h played few =
    let header = (long_header_parts limits h).within in
    let body = renewed_size front played in
    let both = size_both (map renewed front) (codes "end" ∷ []) in
    omega (arith, header, body, both, few, length_of (new_lines limits front))

new_bytes : (limits : Limits) (front : List (List ℕ))
    → migrated_header limits ++ (texts front ++ codes "end\n") ≡ bytes_of (new_lines limits front)
unfolding new_lines
new_bytes limits front =
    append_assoc (new_header limits) (10 ∷ []) (texts front ++ codes "end\n")
    ∙ ap (λ t. new_header limits ++ 10 ∷ (t ++ codes "end\n")) (texts_are front)
    ∙ ap (λ t. new_header limits ++ 10 ∷ t) (sym (bytes_both (map renewed front) (codes "end" ∷ [])))

-- its lines are read again
new_read : (limits : Limits) (front : List (List ℕ)) → IsLimits limits → AllPlayed front → LackFeeds front →
    size_of front ≤ MIGRATE_LIMIT + 1
    → lines_read INPUT_LIMIT (bytes_of (new_lines limits front)) ≡ new_lines limits front
new_read limits front h played lack few =
    let lines = new_lines limits front in
    let bytes = bytes_of lines in
    let back : lines_of false bytes ≡ lines =
    ap (lines_of false) (sym (append-nil bytes)) ∙ lines_front false lines [] (new_lack limits front h lack)
    ∙ ap (λ l. lines ++ l) (lines_nil false) ∙ append-nil lines in
    (input_ended {limit = INPUT_LIMIT} lines bytes bytes refl (new_size limits front h played few) back).1

-- ---- the two replays

-- the answer of a replay, and of a migration
replayed : List ℕ → Answer
replayed bytes = session_of_lines (is_cut INPUT_LIMIT bytes) (lines_read INPUT_LIMIT bytes)

migrated : List ℕ → Answer
migrated bytes = migrated_lines (is_cut MIGRATE_LIMIT bytes) (lines_read MIGRATE_LIMIT bytes)

replay_is : (bytes : List ℕ) → ((output_of replay bytes, status_of replay bytes) ≡ replayed bytes)
unfolding output_of status_of answer_by session_answer lines_read replayed
replay_is bytes = refl

migrate_is : (bytes : List ℕ) → ((output_of migrate bytes, status_of migrate bytes) ≡ migrated bytes)
unfolding output_of status_of answer_by migrated_answer lines_read migrated
migrate_is bytes = refl

-- a line that ends a session is short
end_short : (raw : List ℕ) (o : Option Line) → line_of Session raw ≡ o → meaning_of_line 0 o ≡ meaning.End →
    length raw ≤ 8400
end_short raw (Some line.End) is e = let text = (reads_only Session raw line.End is).0 in omega (arith, ap length text)
end_short raw None is e = absurd (cc e)
end_short raw (Some (line.Act act)) is e = absurd (cc e)
end_short raw (Some (line.Header limits)) is e = absurd (cc e)
end_short raw (Some (line.Session found)) is e = absurd (cc e)
end_short raw (Some (line.Stamped stamp found)) is e = absurd (reads_only Session raw (line.Stamped stamp found) is).1
end_short raw (Some (line.Shell step)) is e = absurd (cc e)

ends_short : (raw : List ℕ) → meaning_of old raw ≡ meaning.End → length raw ≤ 8400
unfolding meaning_of
ends_short raw e = end_short raw (line_of Session raw) refl e

lack_before : (a : List (List ℕ)) (b : List (List ℕ)) → LackFeeds (a ++ b) → LackFeeds a
lack_before [] b lack = tt
lack_before (raw ∷ a) b lack = (lack.0, lack_before a b lack.1)

-- where the lines begin with a header, and are written up to the end
replays_as : (input : List ℕ) (header : List ℕ) (lines : List (List ℕ)) (limits : Limits) (output : List ℕ)
    → lines_read MIGRATE_LIMIT input ≡ header ∷ lines → header_of Session header ≡ Some limits →
    (w : Written lines output)
    → replayed (migrated_header limits ++ output) ≡ replayed input
unfolding replayed new_lines
replays_as input header lines limits output read is w =
    let all : lines_read MIGRATE_LIMIT input ≡ (header ∷ w.front) ++ w.end ∷ w.rest =
    read ∙ ap (λ l. header ∷ l) w.split in
    let set : IsLimits limits = header_set Session header limits (sym is) in
    let lack : LackFeeds w.front =
    (lack_before (header ∷ w.front) (w.end ∷ w.rest) (subst LackFeeds all (read_lacks MIGRATE_LIMIT input))).1 in
    let size : size_of w.front ≤ MIGRATE_LIMIT + 1 =
    let whole = ap size_of all ∙ size_both (header ∷ w.front) (w.end ∷ w.rest) in
    omega (arith, whole, read_size MIGRATE_LIMIT input) in
    let bytes : migrated_header limits ++ output ≡ bytes_of (new_lines limits w.front) =
    ap (λ t. migrated_header limits ++ t) w.is ∙ new_bytes limits w.front in
    let again = new_read limits w.front set w.played lack size in
    let longer =
    same_lines MIGRATE_LIMIT INPUT_LIMIT input (header ∷ w.front) w.end w.rest (omega arith) all
    (ends_short w.end w.ends) in
    let cut = is_cut INPUT_LIMIT input in
    let cut' = is_cut INPUT_LIMIT (bytes_of (new_lines limits w.front)) in
    ap replayed bytes
    ∙ ap (session_of_lines cut') again
    ∙ ap (λ o. by_opening cut' o (map renewed w.front ++ codes "end" ∷ [])) (opens limits set)
    ∙ sym (plays_as limits cut cut' 1 unplayed w.front w.end longer.rest w.played w.ends)
    ∙ sym (ap (λ o. by_opening cut (opening_by o (header_of Session2 header)) (w.front ++ w.end ∷ longer.rest)) is)
    ∙ sym (ap (session_of_lines cut) longer.is)

-- by the first line

by_header : (input : List ℕ) (cut : Bool) (header : List ℕ) (lines : List (List ℕ)) (o : Option Limits) →
    lines_read MIGRATE_LIMIT input ≡ header ∷ lines
    → header_of Session header ≡ o → (by_old_header cut o lines).1 ≡ status.Ok →
    replayed (by_old_header cut o lines).0 ≡ replayed input
by_header input cut header lines None read is ok = absurd (cc ok)
by_header input cut header lines (Some limits) read is ok =
    replays_as input header lines limits (migrated_from cut 1 lines).0 read is (written_of cut 1 lines ok)

by_lines : (input : List ℕ) (cut : Bool) (all : List (List ℕ)) → lines_read MIGRATE_LIMIT input ≡ all →
    (migrated_lines cut all).1 ≡ status.Ok
    → replayed (migrated_lines cut all).0 ≡ replayed input
by_lines input cut [] read ok = absurd (long_or_missing cut 0 ok)
by_lines input cut (header ∷ lines) read ok = by_header input cut header lines (header_of Session header) read refl ok

pub migrates : Migrates
unfolding migrated
migrates input ok =
    let is = migrate_is input in
    let same = by_lines input (is_cut MIGRATE_LIMIT input) (lines_read MIGRATE_LIMIT input) refl
    (sym (ap (λ (a : Answer). a.1) is) ∙ ok) in
    let both : replayed (output_of migrate input) ≡ replayed input = ap (λ (a : Answer). replayed a.0) is ∙ same in
    record {
      output = ap (λ (a : Answer). a.0) (replay_is (output_of migrate input) ∙ both ∙ sym (replay_is input));
      status = ap (λ (a : Answer). a.1) (replay_is (output_of migrate input) ∙ both ∙ sym (replay_is input));
    }
