-- How the answer of explained lines grows with each.
use Rattle.std.proofs.Common.{◌≡◌, ℕ, ◌+◌, Bool, true, false, List, [], ◌∷◌, ◌++◌, length, Some, None, refl, sym, ap, ◌∙◌, arith, append_assoc, append-nil, length-append}
use Rattle.std.specs.Prelude.{if◌then◌else◌}
use Rattle.std.proofs.lemmas.Bool.{le-leb}
use Rattle.broker_steps.specs.declared.limits.Limits.{Limits}
use Rattle.broker_steps.specs.declared.stamp.Stamp.{Stamp}
use Rattle.session_text.specs.declared.line.SessionLine.{SessionLine}
use Rattle.broker_model.specs.declared.journal.Entry.{Entry}
use Rattle.broker_model.specs.Limits.{number_counted}
use Rattle.seat_set.specs.Played.{Play, Played as Step, line_played}
use Rattle.seat_set.specs.Playing.{Playing, IsMore}
use Rattle.lines_explained.specs.declared.explainer.Lines.{Lines}
use Rattle.lines_explained.specs.Journals.{entry_line, journal_lines, lines_since}
use Rattle.lines_explained.proofs.LinesSince.{no_lines}
use Rattle.program_run.specs.declared.last_line.LastLine.{LastLine}
use Rattle.program_run.specs.declared.last_line.LastLine.TheVariants as last
use Rattle.program_run.specs.declared.session_line.Meaning.{Meaning}
use Rattle.program_run.specs.declared.session_line.Meaning.TheVariants as meaning
use Rattle.program_run.specs.declared.session_line.Stage.{Stage}
use Rattle.program_run.specs.Endings.{Answer, with_front, ending, without_end, is_long}
use Rattle.program_run.specs.Scripts.{Follows, Settles}
use Rattle.program_run.specs.Session.{full_at, meaning_of, next_stage}
use Rattle.program_run.specs.Explain.{explained, by_meaning, explain_from, explain_of_lines}
use Rattle.program_run.specs.ExplainScript.{ExplainerStands}
use Rattle.program_run.proofs.SessionLines.{line_grows}

-- the lines of a longer journal begin with those of the shorter

more_since : (which : Lines) (capacity : ℕ) (more t : List Entry)
    → journal_lines which capacity (more ++ t)
    ≡ journal_lines which capacity t ++ lines_since which capacity (length t) (more ++ t)
more_since which capacity [] t = sym (append-nil (journal_lines which capacity t))
    ∙ ap (λ (l : List ℕ). journal_lines which capacity t ++ l) (sym (no_lines which capacity t))
more_since which capacity (e ∷ more) t =
    let long = length-append more t in
    let older : List Entry = more ++ t in
    ap (λ (l : List ℕ). l ++ entry_line which capacity e older) (more_since which capacity more t)
    ∙ append_assoc (journal_lines which capacity t) (lines_since which capacity (length t) older)
    (entry_line which capacity e older)
    ∙ ap (λ (l : List ℕ). journal_lines which capacity t ++ l)
    (sym (ap (λ (b : Bool).
    (if b then lines_since which capacity (length t) older ++ entry_line which capacity e older else []))
    (le-leb (length t) (length older) (omega arith))))

pub text_grows : (which : Lines) (capacity : ℕ) (before after : List Entry) → IsMore before after
    → journal_lines which capacity after
    ≡ journal_lines which capacity before ++ lines_since which capacity (length before) after
text_grows which capacity before after m =
    ap (journal_lines which capacity) m.is ∙ more_since which capacity m.more before
    ∙ ap (λ (j : List Entry). journal_lines which capacity before ++ lines_since which capacity (length before) j)
    (sym m.is)

-- the lines so far stand before every answer

longer : (which : Lines) (limits : Limits) (play : Play) (p : Step) (x : Answer)
    → IsMore play.journal p.play.journal
    → (rest : Answer) × (with_front (journal_lines which limits.store p.play.journal) x ≡ with_front
    (journal_lines which limits.store play.journal) rest)
longer which limits play p x m =
    let more : List ℕ = lines_since which limits.store (length play.journal) p.play.journal in (
      with_front more x,
      ap (λ t. (t ++ x.0, x.1)) (text_grows which limits.store play.journal p.play.journal m)
          ∙ ap (λ t. (t, x.1)) (append_assoc (journal_lines which limits.store play.journal) more x.0),
    )

longer_by : (which : Lines) (limits : Limits) (play : Play) (p : Step) (rest : Play → Answer) (b : Bool)
    → IsMore play.journal p.play.journal
    → ((next : Play) → (x : Answer) × (rest next ≡ with_front (journal_lines which limits.store next.journal) x))
    → (x : Answer)
    × ((if b then explained which limits p.play (ending (last.Full (number_counted p.play.journal))) else rest p.play)
    ≡ with_front (journal_lines which limits.store play.journal) x)
longer_by which limits play p rest true m next =
    longer which limits play p (ending (last.Full (number_counted p.play.journal))) m
longer_by which limits play p rest false m next =
    let here = next p.play in
    let more = longer which limits play p here.0 m in
    (more.0, here.1 ∙ more.1)

begins_by : (which : Lines) (limits : Limits) (n : ℕ) (play : Play) (rest : Stamp → Play → Answer) (m : Meaning)
    → ((stamp : Stamp) (next : Play) →
    (x : Answer) × (rest stamp next ≡ with_front (journal_lines which limits.store next.journal) x))
    → (x : Answer)
    × (by_meaning which limits n play m rest ≡ with_front (journal_lines which limits.store play.journal) x)
begins_by which limits n play rest (meaning.Play stamp found) next =
    let p = line_played limits found play in
    longer_by which limits play p (rest stamp) p.is_full (line_grows limits found play) (next stamp)
begins_by which limits n play rest meaning.End next = (ending (last.End (length play.journal)), refl)
begins_by which limits n play rest meaning.Bad next = (ending (last.Bad (n + 1)), refl)

pub begins : (which : Lines) (limits : Limits) (cut : Bool) (n : ℕ) (stage : Stage) (play : Play)
    (lines : List (List ℕ))
    → (x : Answer)
    × (explain_from which limits cut n stage play lines ≡ with_front (journal_lines which limits.store play.journal) x)
unfolding explain_from
begins which limits cut n stage play [] = (without_end cut n, refl)
begins which limits cut n stage play (raw ∷ lines) =
    begins_by which limits n play
    (λ stamp next. explain_from which limits cut (n + 1) (next_stage stage stamp) next lines)
    (meaning_of stage raw)
    (λ stamp next. begins which limits cut (n + 1) (next_stage stage stamp) next lines)

-- by what the line means
step : (which : Lines) (stage : Stage) (player : Playing) (before : ℕ) (done : List (List ℕ))
    (output raw : List ℕ) (m : Meaning)
    → ExplainerStands which stage player before done output → m ≡ meaning_of stage raw
    → (cut : Bool) (more : List (List ℕ))
    → explain_of_lines which cut ((done ++ raw ∷ []) ++ more) ≡ by_meaning which player.limits before player.play m
    (λ stamp next. explain_from which player.limits cut (before + 1) (next_stage stage stamp) next more)
unfolding explain_from
step which stage player before done output raw m s is cut more =
    ap (explain_of_lines which cut) (append_assoc done (raw ∷ []) more) ∙ s.goes_on cut (raw ∷ more)
    ∙ ap (λ w. by_meaning which player.limits before player.play w
    (λ stamp next. explain_from which player.limits cut (before + 1) (next_stage stage stamp) next more)) (sym is)

-- a line that ends the session without a step
pub settles : (which : Lines) (stage : Stage) (player : Playing) (before : ℕ) (done : List (List ℕ))
    (output raw : List ℕ) (m : Meaning) (end : LastLine)
    → ExplainerStands which stage player before done output → m ≡ meaning_of stage raw
    → ((rest : Stamp → Play → Answer) →
    by_meaning which player.limits before player.play m rest ≡ explained which player.limits player.play
    (ending end)) → is_long (ending end).1 ≡ false
    → Settles (explain_of_lines which) (done ++ raw ∷ []) (with_front output (ending end))
settles which stage player before done output raw m end s is ends other = record {
  same = λ cut more.
      step which stage player before done output raw m s is cut more
      ∙ ends (λ stamp next. explain_from which player.limits cut (before + 1) (next_stage stage stamp) next more)
      ∙ ap (λ t. with_front t (ending end)) (sym s.said);
  decides = other;
}

full_by : (which : Lines) (limits : Limits) (p : Step) (rest : Play → Answer) (entries : ℕ) (b : Bool)
    → Some entries ≡ (if b then Some (number_counted p.play.journal) else None)
    → (if b then explained which limits p.play (ending (last.Full (number_counted p.play.journal))) else rest p.play)
    ≡ explained which limits p.play (ending (last.Full entries))
full_by which limits p rest entries true h = let same : number_counted p.play.journal ≡ entries = cc in
    ap (λ n. explained which limits p.play (ending (last.Full n))) same
full_by which limits p rest entries false h = absurd (cc h)

-- a line of which a step which met a journal that was full for it
pub settles_full : (which : Lines) (stage : Stage) (player : Playing) (before : ℕ) (done : List (List ℕ))
    (output raw : List ℕ) (stamp : Stamp) (found : SessionLine)
    (entries : ℕ) → ExplainerStands which stage player before done output
    → meaning.Play stamp found ≡ meaning_of stage raw →
    Some entries ≡ full_at (line_played player.limits found player.play)
    → Settles (explain_of_lines which) (done ++ raw ∷ [])
    (with_front (journal_lines which player.limits.store (line_played player.limits found player.play).play.journal)
    (ending (last.Full entries)))
settles_full which stage player before done output raw stamp found entries s is h = record {
  same = λ cut more.
      let p = line_played player.limits found player.play in
      step which stage player before done output raw (meaning.Play stamp found) s is cut more
      ∙ full_by which player.limits p
      (λ next. explain_from which player.limits cut (before + 1) (next_stage stage stamp) next more) entries p.is_full
      h;
  decides = refl;
}

played_by : (which : Lines) (limits : Limits) (p : Step) (rest : Play → Answer) (b : Bool)
    → None ≡ (if b then Some (number_counted p.play.journal) else None) →
    (if b then explained which limits p.play (ending (last.Full (number_counted p.play.journal))) else rest p.play)
    ≡ rest p.play
played_by which limits p rest true h = absurd (cc h)
played_by which limits p rest false h = refl

-- a line that was played
pub goes_further : (which : Lines) (stage : Stage) (player : Playing) (before : ℕ) (done : List (List ℕ))
    (output raw : List ℕ) (stamp : Stamp) (found : SessionLine)
    → ExplainerStands which stage player before done output
    → meaning.Play stamp found ≡ meaning_of stage raw → None ≡ full_at (line_played player.limits found player.play)
    → (cut : Bool) (more : List (List ℕ))
    → explain_of_lines which cut ((done ++ raw ∷ []) ++ more)
    ≡ explain_from which player.limits cut (before + 1) (next_stage stage stamp)
    (line_played player.limits found player.play).play more
goes_further which stage player before done output raw stamp found s is h cut more =
    let p = line_played player.limits found player.play in
    step which stage player before done output raw (meaning.Play stamp found) s is cut more
    ∙ played_by which player.limits p
    (λ next. explain_from which player.limits cut (before + 1) (next_stage stage stamp) next more) p.is_full h

-- no line of these decided
pub follows : (which : Lines) (stage : Stage) (player : Playing) (before : ℕ) (done : List (List ℕ)) (output : List ℕ)
    → ExplainerStands which stage player before done output → Follows (explain_of_lines which) done output
unfolding explain_from
follows which stage player before done output s = record {
  begins = λ cut more.
      let b = begins which player.limits cut before stage player.play more in
      (b.0, s.goes_on cut more ∙ b.1 ∙ ap (λ t. with_front t b.0) (sym s.said));
  undecided = ap (explain_of_lines which true) (sym (append-nil done)) ∙ s.goes_on true []
      ∙ ap (λ t. with_front t (ending last.Long)) (sym s.said);
}
