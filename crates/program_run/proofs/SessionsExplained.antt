-- What one line more makes of a session that is explained.
use Rattle.std.proofs.Common.{◌≡◌, ℕ, ◌+◌, false, List, [], ◌∷◌, ◌++◌, length, Option, Some, None, refl, sym, ap, subst, ◌∙◌, append-nil, length-append}
use Rattle.std.specs.Option.{option_map}
use Rattle.broker_steps.specs.declared.limits.Limits.{Limits}
use Rattle.broker_steps.specs.declared.stamp.Stamp.{Stamp}
use Rattle.session_text.specs.declared.line.SessionLine.{SessionLine}
use Rattle.broker_model.specs.declared.journal.Entry.{Entry}
use Rattle.seat_set.specs.Played.{line_played}
use Rattle.seat_set.specs.Playing.{Playing, IsMore, IsWatched}
use Rattle.lines_explained.specs.declared.explainer.Lines.{Lines}
use Rattle.lines_explained.specs.Explained.{Explaining, MayExplain, blank}
use Rattle.lines_explained.specs.Journals.{journal_lines, lines_since, at_rest}
use Rattle.lines_explained.proofs.LinesSince.{no_lines}
use Rattle.program_run.specs.declared.last_line.LastLine.{LastLine}
use Rattle.program_run.specs.declared.last_line.LastLine.TheVariants as last
use Rattle.program_run.specs.declared.session_line.Meaning.{Meaning}
use Rattle.program_run.specs.declared.session_line.Meaning.TheVariants as meaning
use Rattle.program_run.specs.declared.session_line.Opening.{Opening}
use Rattle.program_run.specs.declared.session_line.Stage.{Stage}
use Rattle.program_run.specs.Endings.{with_front, ending}
use Rattle.program_run.specs.Scripts.{Follows, Settles, NamesNext, Played}
use Rattle.program_run.specs.Session.{full_at, meaning_of, opening_of, first_stage, next_stage}
use Rattle.program_run.specs.PlayerScript.{fresh}
use Rattle.program_run.specs.Explain.{by_opening, explain_from, explain_of_lines}
use Rattle.program_run.specs.ExplainScript.{ExplainerStands, ExplainerHolds, ExplainStandsBy}
use Rattle.program_run.specs.WhereLinesLead.{IsLed, IsLedBy, stage_behind}
use Rattle.program_run.proofs.SessionLines.{long_is_bad, long_is_none}
use Rattle.program_run.proofs.ExplainAnswers.{text_grows, settles, settles_full, goes_further, follows}

-- the lines of a line
abbrev gained : Lines → Playing → Playing → List ℕ
gained which player after =
    lines_since which player.limits.store (length player.play.journal) after.play.journal

-- a line that isn't played has none
gains_none : (which : Lines) (player after : Playing) → after ≡ player → gained which player after ≡ []
gains_none which player after same =
    ap (λ (p : Playing). lines_since which player.limits.store (length player.play.journal) p.play.journal) same
    ∙ no_lines which player.limits.store player.play.journal

-- they are finished once they were watched
pub finished : (which : Lines) (player after : Playing) (x y z : Explaining) (gathered : List ℕ)
    → ExplainerHolds which player x gathered
    → IsWatched MayExplain player.limits.store player.play.journal x after.play.journal y
    → ((more : List Entry) → after.play.journal ≡ more ++ player.play.journal
    → IsWatched MayExplain player.limits.store player.play.journal (at_rest which player.play.journal gathered)
    (more ++ player.play.journal) y
    → z ≡ at_rest which (more ++ player.play.journal)
    (gathered ++ lines_since which player.limits.store (length player.play.journal) (more ++ player.play.journal)))
    → ExplainerHolds which after z (gathered ++ gained which player after)
finished which player after x y z gathered rest w close =
    let store : ℕ = player.limits.store in
    let older : List Entry = player.play.journal in
    subst (λ (j : List Entry). z ≡ at_rest which j (gathered ++ lines_since which store (length older) j))
    (sym w.grew.is)
    (close w.grew.more w.grew.is
    (subst (λ (j : List Entry). IsWatched MayExplain store older (at_rest which older gathered) j y) w.grew.is
    (subst (λ (v : Explaining). IsWatched MayExplain store older v after.play.journal y) rest w)))

-- the output so far, with them
said_line : (which : Lines) (stage : Stage) (player after : Playing) (before : ℕ) (done : List (List ℕ))
    (output : List ℕ) → ExplainerStands which stage player before done output
    → IsMore player.play.journal after.play.journal
    → output ++ gained which player after ≡ journal_lines which player.limits.store after.play.journal
said_line which stage player after before done output s more =
    ap (λ t. t ++ gained which player after) s.said
    ∙ sym (text_grows which player.limits.store player.play.journal after.play.journal more)

one_more : (done : List (List ℕ)) (raw : List ℕ) → length (done ++ raw ∷ []) ≡ length done + 1
one_more done raw = length-append done (raw ∷ [])

-- it goes on
stands_line : (which : Lines) (stage : Stage) (player after : Playing) (stamp : Stamp) (found : SessionLine)
    (before : ℕ) (done : List (List ℕ)) (raw output : List ℕ) → ExplainerStands which stage player before done output
    → meaning.Play stamp found ≡ meaning_of stage raw → None ≡ full_at (line_played player.limits found player.play)
    → IsLed player after found None → IsMore player.play.journal after.play.journal
    → ExplainerStands which (next_stage stage stamp) after (before + 1) (done ++ raw ∷ [])
    (output ++ gained which player after)
stands_line which stage player after stamp found before done raw output s is room led more =
    let went = led.play refl in
    let store : player.limits.store ≡ after.limits.store = ap (λ (l : Limits). l.store) (sym led.limits) in
    record {
      unspent = ap (λ (p : Playing). p.is_spent) went ∙ s.unspent;
      count = ap (λ k. k + 1) s.count ∙ sym (one_more done raw);
      said = subst (λ (n : ℕ). output ++ gained which player after ≡ journal_lines which n after.play.journal) store
          (said_line which stage player after before done output s more);
      goes_on = λ cut more.
          goes_further which stage player before done output raw stamp found s is room cut more
          ∙ ap (λ (p : Playing). explain_from which p.limits cut (before + 1) (next_stage stage stamp) p.play more)
          (sym went);
    }

-- a line before an explainer: what it comes to
Comes : Lines → Stage → Playing → ℕ → Explaining → List (List ℕ) → List ℕ → List ℕ → List ℕ → Option LastLine
    → Type 0
Comes which stage player before y done raw output gathered end =
    Played (explain_of_lines which) (ExplainerStands which stage player before) (ExplainerHolds which player y) done
    raw output gathered end

-- by the entries that are counted where the journal was full
told_by : (which : Lines) (stage : Stage) (player after : Playing) (y : Explaining) (stamp : Stamp)
    (found : SessionLine) (before : ℕ) (done : List (List ℕ)) (raw output gathered : List ℕ) (full : Option ℕ)
    → ExplainerStands which stage player before done output → meaning.Play stamp found ≡ meaning_of stage raw
    → full ≡ full_at (line_played player.limits found player.play)
    → IsLed player after found (option_map last.Full full) → IsMore player.play.journal after.play.journal
    → ExplainerHolds which after y (gathered ++ gained which player after)
    → Comes which (next_stage stage stamp) after (before + 1) y done raw output gathered (option_map last.Full full)
unfolding Comes
told_by which stage player after y stamp found before done raw output gathered None s is room led more h =
    let next = stands_line which stage player after stamp found before done raw output s is room led more in (
      gained which player after,
      next,
      h,
      follows which (next_stage stage stamp) after (before + 1) (done ++ raw ∷ [])
          (output ++ gained which player after) next,
    )
told_by which stage player after y stamp found before done raw output gathered (Some entries) s is room led more h =
    let text : journal_lines which player.limits.store (line_played player.limits found player.play).play.journal
    ≡ output ++ gained which player after =
    ap (journal_lines which player.limits.store) (sym led.journal)
    ∙ sym (said_line which stage player after before done output s more) in (
      gained which player after,
      h,
      subst (λ t. Settles (explain_of_lines which) (done ++ raw ∷ []) (with_front t (ending (last.Full entries)))) text
          (settles_full which stage player before done output raw stamp found entries s is room),
    )

-- a line that was played
played_line : (which : Lines) (stage : Stage) (player after : Playing) (y : Explaining) (stamp : Stamp)
    (found : SessionLine) (before : ℕ) (done : List (List ℕ)) (raw output gathered : List ℕ) (end : Option LastLine)
    → ExplainerStands which stage player before done output → meaning.Play stamp found ≡ meaning_of stage raw
    → IsLed player after found end → IsMore player.play.journal after.play.journal
    → ExplainerHolds which after y (gathered ++ gained which player after)
    → Comes which (next_stage stage stamp) after (before + 1) y done raw output gathered end
played_line which stage player after y stamp found before done raw output gathered end s is led more h =
    let full : Option ℕ = full_at (line_played player.limits found player.play) in
    subst (Comes which (next_stage stage stamp) after (before + 1) y done raw output gathered) (sym led.full)
    (told_by which stage player after y stamp found before done raw output gathered full s is refl
    (subst (IsLed player after found) led.full led) more h)

-- a line that ends the session without a step has no line of its own
ended : (which : Lines) (stage : Stage) (player after : Playing) (y : Explaining) (before : ℕ)
    (done : List (List ℕ)) (raw output gathered : List ℕ) (end : LastLine) → after ≡ player
    → ExplainerHolds which after y (gathered ++ gained which player after)
    → Settles (explain_of_lines which) (done ++ raw ∷ []) (with_front output (ending end))
    → Comes which stage after before y done raw output gathered (Some end)
unfolding Comes
ended which stage player after y before done raw output gathered end same h s = (
  [],
  subst (λ t. ExplainerHolds which after y (gathered ++ t)) (gains_none which player after same) h,
  subst (λ t. Settles (explain_of_lines which) (done ++ raw ∷ []) (with_front t (ending end)))
      (sym (append-nil output)) s,
)

-- any line, by what it means
line_told : (which : Lines) (stage : Stage) (player after : Playing) (y : Explaining) (before : ℕ)
    (done : List (List ℕ)) (raw output gathered : List ℕ) (m : Meaning) (end : Option LastLine)
    → ExplainerStands which stage player before done output → m ≡ meaning_of stage raw
    → IsLedBy before player after m end → IsMore player.play.journal after.play.journal
    → ExplainerHolds which after y (gathered ++ gained which player after)
    → Comes which (stage_behind stage m) after (before + 1) y done raw output gathered end
line_told which stage player after y before done raw output gathered (meaning.Play stamp found) end s is led more h =
    played_line which stage player after y stamp found before done raw output gathered end s is led more h
line_told which stage player after y before done raw output gathered meaning.End end s is led more h =
    subst (Comes which stage after (before + 1) y done raw output gathered) (sym led.1)
    (ended which stage player after y (before + 1) done raw output gathered
    (last.End (length player.play.journal)) led.0 h
    (settles which stage player before done output raw meaning.End (last.End (length player.play.journal)) s is
    (λ rest. refl) refl))
line_told which stage player after y before done raw output gathered meaning.Bad end s is led more h =
    subst (Comes which stage after (before + 1) y done raw output gathered) (sym led.1)
    (ended which stage player after y (before + 1) done raw output gathered (last.Bad (before + 1)) led.0 h
    (settles which stage player before done output raw meaning.Bad (last.Bad (before + 1)) s is (λ rest. refl) refl))

-- the same by its stage
pub line_explained : (which : Lines) (stage next : Stage) (player after : Playing) (y : Explaining) (before : ℕ)
    (done : List (List ℕ)) (raw output gathered : List ℕ) (end : Option LastLine)
    → ExplainerStands which stage player before done output
    → next ≡ stage_behind stage (meaning_of stage raw) → IsLedBy before player after (meaning_of stage raw) end
    → IsMore player.play.journal after.play.journal
    → ExplainerHolds which after y
    (gathered ++ lines_since which player.limits.store (length player.play.journal) after.play.journal)
    → Played (explain_of_lines which) (ExplainerStands which next after (before + 1)) (ExplainerHolds which after y)
    done raw output gathered end
unfolding Comes
line_explained which stage next player after y before done raw output gathered end s at led more h =
    subst (λ (t : Stage). Comes which t after (before + 1) y done raw output gathered end) (sym at)
    (line_told which stage player after y before done raw output gathered (meaning_of stage raw) end s refl led more h)

-- the header
header_stands : (which : Lines) (opening : Opening) (raw : List ℕ) → Some opening ≡ opening_of raw
    → ExplainerStands which (first_stage opening.form) (fresh opening.limits) 1 (raw ∷ []) []
header_stands which opening raw is = record {
  unspent = refl;
  count = refl;
  said = refl;
  goes_on = λ cut more. ap (λ o. by_opening which cut o more) (sym is);
}

pub no_header : (which : Lines) (raw : List ℕ) → None ≡ opening_of raw
    → Settles (explain_of_lines which) (raw ∷ []) (ending (last.Bad 1))
no_header which raw is = record { same = λ cut more. ap (λ o. by_opening which cut o more) (sym is); decides = refl }

-- how the output ends behind these lines
names_next : (which : Lines) (stage : Stage) (player : Playing) (before : ℕ) (done : List (List ℕ)) (output : List ℕ)
    → ExplainerStands which stage player before done output
    → NamesNext (explain_of_lines which) done output (last.Bad (before + 1))
unfolding explain_from
names_next which stage player before done output s = record {
  missing = ap (explain_of_lines which false) (sym (append-nil done)) ∙ s.goes_on false []
      ∙ ap (λ t. with_front t (ending (last.Bad (before + 1)))) (sym s.said);
  long = λ raw wide. settles which stage player before done output raw meaning.Bad (last.Bad (before + 1)) s
      (sym (long_is_bad stage raw wide)) (λ rest. refl) refl;
}

names_first : (which : Lines) → NamesNext (explain_of_lines which) [] [] (last.Bad 1)
names_first which = record { missing = refl; long = λ raw wide. no_header which raw (sym (long_is_none raw wide)) }

-- the same where a header may have come or not

pub count_by : (which : Lines) (stage : Stage) (o : Option Playing) (before : ℕ) (done : List (List ℕ))
    (output : List ℕ) → ExplainStandsBy which stage o before done output → before ≡ length done
count_by which stage None before done output s = s.0 ∙ sym (ap length s.1)
count_by which stage (Some player) before done output s = s.count

pub names_by : (which : Lines) (stage : Stage) (o : Option Playing) (before next : ℕ) (done : List (List ℕ))
    (output : List ℕ) → ExplainStandsBy which stage o before done output → next ≡ before + 1
    → NamesNext (explain_of_lines which) done output (last.Bad next)
names_by which stage None before next done output s e =
    subst (λ n. NamesNext (explain_of_lines which) done output (last.Bad n)) (sym (e ∙ ap (λ n. n + 1) s.0))
    (subst (λ d. NamesNext (explain_of_lines which) d output (last.Bad 1)) (sym s.1)
    (subst (λ t. NamesNext (explain_of_lines which) [] t (last.Bad 1)) (sym s.2) (names_first which)))
names_by which stage (Some player) before next done output s e =
    subst (λ n. NamesNext (explain_of_lines which) done output (last.Bad n)) (sym e)
    (names_next which stage player before done output s)

-- a header came first

Begun : Lines → Stage → Playing → ℕ → Explaining → List (List ℕ) → List ℕ → List ℕ → List ℕ → Type 0
Begun which stage player before y done raw output gathered =
    (x : List ℕ) × ExplainerStands which stage player before (done ++ raw ∷ []) (output ++ x)
    × ExplainerHolds which player y (gathered ++ x)
    × Follows (explain_of_lines which) (done ++ raw ∷ []) (output ++ x)

begun_fresh : (which : Lines) (opening : Opening) (raw : List ℕ) → Some opening ≡ opening_of raw
    → Begun which (first_stage opening.form) (fresh opening.limits) 1 (blank which) [] raw [] []
unfolding Begun
begun_fresh which opening raw is =
    let s = header_stands which opening raw is in
    ([], s, refl, follows which (first_stage opening.form) (fresh opening.limits) 1 (raw ∷ []) [] s)

pub begun : (which : Lines) (stage : Stage) (player : Playing) (before : ℕ) (y : Explaining) (opening : Opening)
    (done : List (List ℕ)) (raw output gathered : List ℕ) → Some opening ≡ opening_of raw
    → stage ≡ first_stage opening.form → player ≡ fresh opening.limits
    → (before ≡ 1) × (done ≡ []) × (output ≡ []) → (y ≡ blank which) × (gathered ≡ [])
    → (x : List ℕ) × ExplainerStands which stage player before (done ++ raw ∷ []) (output ++ x)
    × ExplainerHolds which player y (gathered ++ x)
    × Follows (explain_of_lines which) (done ++ raw ∷ []) (output ++ x)
unfolding Begun
begun which stage player before y opening done raw output gathered is at made stood held =
    subst (λ n. Begun which stage player n y done raw output gathered) (sym stood.0)
    (subst (λ d. Begun which stage player 1 y d raw output gathered) (sym stood.1)
    (subst (λ t. Begun which stage player 1 y [] raw t gathered) (sym stood.2)
    (subst (λ (z : Explaining). Begun which stage player 1 z [] raw [] gathered) (sym held.0)
    (subst (λ t. Begun which stage player 1 (blank which) [] raw [] t) (sym held.1)
    (subst (λ (t : Stage). Begun which t player 1 (blank which) [] raw [] []) (sym at)
    (subst (λ (p : Playing). Begun which (first_stage opening.form) p 1 (blank which) [] raw [] []) (sym made)
    (begun_fresh which opening raw is)))))))

-- before any line
pub explain_begins : (which : Lines) → Follows (explain_of_lines which) [] []
explain_begins which = record { begins = λ cut more. (explain_of_lines which cut more, refl); undecided = refl }
