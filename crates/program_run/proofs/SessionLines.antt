-- The lines of a session: what they ask, and how its transcript grows.
use Rattle.std.proofs.Common.{◌≡◌, ℕ, suc, ◌+◌, ◌<◌, Bool, true, false, leb, ltb, List, [], ◌∷◌, ◌++◌, length, Option, Some, None, refl, sym, ap, subst, ◌∙◌, arith, append_assoc, append-nil, length-append}
use Rattle.std.specs.Prelude.{if◌then◌else◌}
use Rattle.std.proofs.lemmas.Bool.{le-leb, lt-leb}
use Rattle.relay_model.specs.declared.act.EndCause.TheVariants.{Gone}
use Rattle.broker_steps.specs.declared.limits.Limits.{Limits}
use Rattle.broker_steps.specs.Ranges.{IsLimits}
use Rattle.session_text.specs.declared.line.Form.{Form}
use Rattle.session_text.specs.declared.line.Form.TheVariants.{Acts, Session, Session2, Shell}
use Rattle.session_text.specs.declared.line.Line.{Line}
use Rattle.session_text.specs.declared.line.Line.TheVariants as line
use Rattle.session_text.specs.declared.line.SessionLine.{SessionLine}
use Rattle.session_text.specs.declared.line.SessionLine.TheVariants as lines
use Rattle.session_text.specs.Reading.{line_of, line_limit}
use Rattle.session_text.specs.Steps.{IsSessionLine}
use Rattle.session_text.proofs.LinesReadBack.{reads_only}
use Rattle.session_text.proofs.LinesHold.{line_asked, stamped_asked}
use Rattle.session_text.specs.Grammar.{IsLine}
use Rattle.broker_steps.specs.declared.stamp.Stamp.{Stamp}
use Rattle.broker_model.specs.declared.journal.Entry.{Entry}
use Rattle.broker_model.specs.declared.journal.Entry.TheVariants as entries
use Rattle.broker_model.specs.Ids.{peer_at}
use Rattle.broker_model.specs.Limits.{number_counted}
use Rattle.broker_model.specs.Resolve.{past_of}
use Rattle.lines_transcript.specs.Transcribed.{entry_text, journal_text, text_since}
use Rattle.seat_set.specs.Played.{Play, Played, went, step_played, line_played}
use Rattle.seat_set.specs.Playing.{IsMore}
use Rattle.seat_set.proofs.JournalGrows.{no_more, step_grows, bytes_grow, join_grows, take_grows}
use Rattle.program_run.specs.declared.last_line.LastLine.TheVariants as last
use Rattle.program_run.specs.declared.session_line.Meaning.{Meaning}
use Rattle.program_run.specs.declared.session_line.Meaning.TheVariants as meaning
use Rattle.program_run.specs.declared.session_line.Opening.{Opening}
use Rattle.program_run.specs.declared.session_line.Stage.{Stage}
use Rattle.program_run.specs.Endings.{Answer, with_front, ending, without_end}
use Rattle.program_run.specs.Session.{closed, meaning_of_line, meaning_of, by_meaning, next_stage, session_from, header_of_line, header_of, opening_by, opening_of}

-- the transcript of a longer journal begins with that of the shorter

pub none_since : (capacity : ℕ) (journal : List Entry) → text_since capacity (length journal) journal ≡ []
none_since capacity [] = refl
none_since capacity (e ∷ older) =
    ap (λ (b : Bool). (if b then text_since capacity (suc (length older)) older ++ entry_text capacity e older else []))
    (lt-leb (suc (length older)) (length older) (omega arith))

more_since : (capacity : ℕ) (more t : List Entry)
    → journal_text capacity (more ++ t) ≡ journal_text capacity t ++ text_since capacity (length t) (more ++ t)
more_since capacity [] t = sym (append-nil (journal_text capacity t))
    ∙ ap (λ (l : List ℕ). journal_text capacity t ++ l) (sym (none_since capacity t))
more_since capacity (e ∷ more) t =
    let long = length-append more t in
    let older : List Entry = more ++ t in
    ap (λ (l : List ℕ). l ++ entry_text capacity e older) (more_since capacity more t)
    ∙ append_assoc (journal_text capacity t) (text_since capacity (length t) older) (entry_text capacity e older)
    ∙ ap (λ (l : List ℕ). journal_text capacity t ++ l)
    (sym (ap (λ (b : Bool). (if b then text_since capacity (length t) older ++ entry_text capacity e older else []))
    (le-leb (length t) (length older) (omega arith))))

pub text_grows : (capacity : ℕ) (before after : List Entry) → IsMore before after
    → journal_text capacity after ≡ journal_text capacity before ++ text_since capacity (length before) after
text_grows capacity before after m =
    ap (journal_text capacity) m.is ∙ more_since capacity m.more before
    ∙ ap (λ (j : List Entry). journal_text capacity before ++ text_since capacity (length before) j) (sym m.is)

-- a line only adds entries
pub line_grows : (limits : Limits) (found : SessionLine) (play : Play)
    → IsMore play.journal (line_played limits found play).play.journal
line_grows limits (lines.Join role) play = join_grows limits (entries.Join role) play
line_grows limits (lines.Bytes q piece) play = bytes_grow limits q piece play
line_grows limits (lines.Gone q) play = by _
  where
    by : (b : Bool) → IsMore play.journal
        (if b then step_played limits (entries.End q Gone) play else went play).play.journal
    by true = step_grows limits (entries.End q Gone) play
    by false = no_more play.journal
line_grows limits (lines.Take q n) play = take_grows limits q n play (peer_at (past_of play.journal) q)
line_grows limits (lines.Tokens q tokens) play = by _
  where
    by : (b : Bool) → IsMore play.journal
        (if b then step_played limits (entries.Tokens q tokens) play else went play).play.journal
    by true = step_grows limits (entries.Tokens q tokens) play
    by false = no_more play.journal
line_grows limits (lines.Shell step) play = step_grows limits (entries.Shell step) play

-- the transcript so far stands before every answer

longer : (limits : Limits) (play : Play) (p : Played) (x : Answer) → IsMore play.journal p.play.journal
    → (rest : Answer) × (with_front (journal_text limits.store p.play.journal) x ≡ with_front
    (journal_text limits.store play.journal) rest)
longer limits play p x m =
    let more : List ℕ = text_since limits.store (length play.journal) p.play.journal in (
      with_front more x,
      ap (λ t. (t ++ x.0, x.1)) (text_grows limits.store play.journal p.play.journal m)
          ∙ ap (λ t. (t, x.1)) (append_assoc (journal_text limits.store play.journal) more x.0),
    )

longer_by : (limits : Limits) (play : Play) (p : Played) (rest : Play → Answer) (b : Bool)
    → IsMore play.journal p.play.journal
    → ((next : Play) → (x : Answer) × (rest next ≡ with_front (journal_text limits.store next.journal) x))
    → (x : Answer) × ((if b then closed limits p.play (ending (last.Full (number_counted p.play.journal))) else rest
    p.play) ≡ with_front (journal_text limits.store play.journal) x)
longer_by limits play p rest true m next = longer limits play p (ending (last.Full (number_counted p.play.journal))) m
longer_by limits play p rest false m next =
    let here = next p.play in
    let more = longer limits play p here.0 m in
    (more.0, here.1 ∙ more.1)

begins_by : (limits : Limits) (n : ℕ) (play : Play) (rest : Stamp → Play → Answer) (m : Meaning)
    → ((stamp : Stamp) (next : Play) →
    (x : Answer) × (rest stamp next ≡ with_front (journal_text limits.store next.journal) x))
    → (x : Answer) × (by_meaning limits n play m rest ≡ with_front (journal_text limits.store play.journal) x)
begins_by limits n play rest (meaning.Play stamp found) next =
    let p = line_played limits found play in
    longer_by limits play p (rest stamp) p.is_full (line_grows limits found play) (next stamp)
begins_by limits n play rest meaning.End next = (ending (last.End (length play.journal)), refl)
begins_by limits n play rest meaning.Bad next = (ending (last.Bad (n + 1)), refl)

pub begins : (limits : Limits) (cut : Bool) (n : ℕ) (stage : Stage) (play : Play) (lines : List (List ℕ))
    → (x : Answer)
    × (session_from limits cut n stage play lines ≡ with_front (journal_text limits.store play.journal) x)
unfolding session_from
begins limits cut n stage play [] = (without_end cut n, refl)
begins limits cut n stage play (raw ∷ lines) =
    begins_by limits n play (λ stamp next. session_from limits cut (n + 1) (next_stage stage stamp) next lines)
    (meaning_of stage raw)
    (λ stamp next. begins limits cut (n + 1) (next_stage stage stamp) next lines)

-- no line of more bytes than a line may have is in the grammar

pub long_is_bad : (stage : Stage) (raw : List ℕ) → line_limit < length raw → meaning_of stage raw ≡ meaning.Bad
unfolding meaning_of line_of
long_is_bad stage raw long = let test : leb (length raw) 8400 ≡ false = lt-leb (length raw) 8400 long in rw test refl

pub long_is_no_header : (form : Form) (raw : List ℕ) → line_limit < length raw → header_of form raw ≡ None
unfolding header_of line_of
long_is_no_header form raw long = let test : leb (length raw) 8400 ≡ false =
    lt-leb (length raw) 8400 long in rw test refl

pub long_is_none : (raw : List ℕ) → line_limit < length raw → opening_of raw ≡ None
long_is_none raw long = rw (long_is_no_header Session raw long, long_is_no_header Session2 raw long) refl

-- a line that is played holds what a line of a session can give

session_asked : (form : Form) (found : SessionLine) → IsLine form (line.Session found) → IsSessionLine found
session_asked Session found h = line_asked found h
session_asked Session2 found h = absurd h
session_asked Acts found h = absurd h
session_asked Shell found h = absurd h

stamp_asked : (form : Form) (stamp : Stamp) (found : SessionLine) → IsLine form (line.Stamped stamp found) →
    IsSessionLine found
stamp_asked Session2 stamp found h = stamped_asked found h.1
stamp_asked Session stamp found h = absurd h
stamp_asked Acts stamp found h = absurd h
stamp_asked Shell stamp found h = absurd h

played_stamp : (b : Bool) (stamp given : Stamp) (found other : SessionLine)
    → meaning.Play given found ≡ (if b then meaning.Bad else meaning.Play stamp other) → other ≡ found
played_stamp true stamp given found other e = absurd (cc e)
played_stamp false stamp given found other e = cc

asked_by : (stage : Stage) (raw : List ℕ) (stamp : Stamp) (found : SessionLine) (o : Option Line) →
    line_of stage.form raw ≡ o
    → meaning.Play stamp found ≡ meaning_of_line stage.moment o → IsSessionLine found
asked_by stage raw stamp found None e h = cc
asked_by stage raw stamp found (Some line.End) e h = cc
asked_by stage raw stamp found (Some (line.Act act)) e h = cc
asked_by stage raw stamp found (Some (line.Header limits)) e h = cc
asked_by stage raw stamp found (Some (line.Shell s)) e h = cc
asked_by stage raw stamp found (Some (line.Session other)) e h =
    let same : other ≡ found = cc in
    subst IsSessionLine same (session_asked stage.form other (reads_only stage.form raw (line.Session other) e).1)
asked_by stage raw stamp found (Some (line.Stamped given other)) e h =
    let same : other ≡ found = played_stamp (ltb given.moment stage.moment) given stamp found other h in
    subst IsSessionLine same
    (stamp_asked stage.form given other (reads_only stage.form raw (line.Stamped given other) e).1)

pub asked : (stage : Stage) (raw : List ℕ) (stamp : Stamp) (found : SessionLine) →
    meaning.Play stamp found ≡ meaning_of stage raw
    → IsSessionLine found
unfolding meaning_of
asked stage raw stamp found h = asked_by stage raw stamp found (line_of stage.form raw) refl h

-- the limits that a header sets are in their ranges

header_asked : (form : Form) (limits : Limits) → IsLine form (line.Header limits) → IsLimits limits
header_asked Session limits h =
    let weight = h.2 in
    ((h.0.0, omega arith), h.1, (omega (arith, weight), omega (arith, weight)))
header_asked Session2 limits h = h
header_asked Acts limits h = absurd h
header_asked Shell limits h = absurd h

set_by : (form : Form) (raw : List ℕ) (limits : Limits) (o : Option Line) → line_of form raw ≡ o →
    Some limits ≡ header_of_line o
    → IsLimits limits
set_by form raw limits None e h = cc
set_by form raw limits (Some line.End) e h = cc
set_by form raw limits (Some (line.Act act)) e h = cc
set_by form raw limits (Some (line.Session found)) e h = cc
set_by form raw limits (Some (line.Stamped stamp found)) e h = cc
set_by form raw limits (Some (line.Shell s)) e h = cc
set_by form raw limits (Some (line.Header other)) e h =
    let same : other ≡ limits =
    cc in subst IsLimits same (header_asked form other (reads_only form raw (line.Header other) e).1)

pub header_set : (form : Form) (raw : List ℕ) (limits : Limits) → Some limits ≡ header_of form raw → IsLimits limits
unfolding header_of
header_set form raw limits h = set_by form raw limits (line_of form raw) refl h

opening_set : (raw : List ℕ) (opening : Opening) (o p : Option Limits) → header_of Session raw ≡ o →
    header_of Session2 raw ≡ p
    → Some opening ≡ opening_by o p → IsLimits opening.limits
opening_set raw opening (Some limits) p e f h =
    let same : limits ≡ opening.limits = cc in subst IsLimits same (header_set Session raw limits (sym e))
opening_set raw opening None (Some limits) e f h =
    let same : limits ≡ opening.limits = cc in subst IsLimits same (header_set Session2 raw limits (sym f))
opening_set raw opening None None e f h = absurd (cc h)

pub set : (raw : List ℕ) (opening : Opening) → Some opening ≡ opening_of raw → IsLimits opening.limits
set raw opening h = opening_set raw opening (header_of Session raw) (header_of Session2 raw) refl refl h
