-- Each line that a session plays is in its grammar, and what such lines play can be held.
use Rattle.std.proofs.Common.{◌≡◌, ℕ, ◌≤◌, ℤ, pos, negsuc, List, [], ◌∷◌, Bool, true, false, Option, Some, None, refl, ap, subst, arith}
use Rattle.std.specs.Prelude.{if◌then◌else◌, nat_lt, IsTrue}
use Rattle.std.specs.List.{AllByRecursion}
use Rattle.std.proofs.lemmas.Bool.{ltb-true}
use Rattle.std.proofs.lemmas.Option.{same_Some}
use Rattle.broker_steps.specs.declared.limits.Limits.{Limits}
use Rattle.broker_steps.specs.declared.stamp.Stamp.{Stamp}
use Rattle.broker_steps.specs.declared.step.ShellStep.{ShellStep}
use Rattle.broker_steps.specs.declared.step.ShellStep.TheVariants as shells
use Rattle.broker_steps.specs.Ranges.{IsLimits}
use Rattle.session_text.specs.declared.line.Form.{Form}
use Rattle.session_text.specs.declared.line.Form.TheVariants.{Acts, Session, Session2, Shell}
use Rattle.session_text.specs.declared.line.Line.{Line}
use Rattle.session_text.specs.declared.line.Line.TheVariants as line
use Rattle.session_text.specs.declared.line.SessionLine.{SessionLine}
use Rattle.session_text.specs.declared.line.SessionLine.TheVariants as sessions
use Rattle.session_text.specs.Grammar.{IsLine}
use Rattle.session_text.specs.Reading.{line_of}
use Rattle.session_text.specs.SessionGrammar.{HasLinkLine, HasStampedLine}
use Rattle.session_text.specs.Words.{fits_i32}
use Rattle.session_text.proofs.LinesReadBack.{reads_only}
use Rattle.session_text.proofs.SpelledSteps.{old_line}
use Rattle.seat_set.specs.Printing.{unstamped}
use Rattle.broker_model.proofs.EachElement.{each_weaker}
use Rattle.broker_telling.specs.Sayable.{IsInt, IsShellSayable}
use Rattle.seat_set.specs.Laws.{lines_played, unplayed}
use Rattle.program_run.specs.declared.session_line.Meaning.TheVariants as meaning
use Rattle.program_run.specs.declared.session_line.Opening.{Opening}
use Rattle.program_run.specs.declared.session_line.Stage.{Stage}
use Rattle.program_run.specs.Replayed.{lines_by, session_lines}
use Rattle.program_run.specs.Session.{first_stage, header_of, header_of_line, meaning_of, meaning_of_line, next_stage, opening_by, opening_of}
use Rattle.law_held.specs.Held.{LinesAreHeld, SessionsAreHeld}
use Rattle.law_held.proofs.LinesHold.{GivesHeld, nothing_holds, lines_hold, is_held}

-- ---- what a line in its grammar gives can be held

is_int : (z : ℤ) → IsTrue (fits_i32 z) → IsInt z
is_int (pos n) e = record { sfits = ltb-true _ _ e }
is_int (negsuc n) e = record { sfits = ltb-true _ _ e }

shell_gives : (step : ShellStep) → HasLinkLine step → IsShellSayable step
shell_gives (shells.Focus p i) h = tt
shell_gives shells.Unfocus h = tt
shell_gives (shells.Area p i rect) h = tt
shell_gives (shells.Screen size) h = tt
shell_gives (shells.Key time key state) h = (h.0, h.1, (let few : state ≤ 1 = h.2 in omega arith))
shell_gives (shells.Mods mods) h = h
shell_gives (shells.Keymap keymap) h = (h.0, h.2)
shell_gives (shells.Repeat repeat) h = (is_int repeat.rate h.0, is_int repeat.delay h.1)
shell_gives (shells.At moment) h = tt

pub line_gives : (line : SessionLine) → HasStampedLine line → GivesHeld line
line_gives (sessions.Join role) h = tt
line_gives (sessions.Bytes p bytes) h = h.1.0
line_gives (sessions.Gone p) h = tt
line_gives (sessions.Take p n) h = tt
line_gives (sessions.Tokens p tokens) h = tt
line_gives (sessions.Shell step) h = shell_gives step h

pub lines_are_held : LinesAreHeld
lines_are_held limits lines limited all =
    is_held limits (lines_played limits lines unplayed).play limited
    (lines_hold limits lines unplayed (each_weaker HasStampedLine GivesHeld lines line_gives all)
    (nothing_holds limits))

-- ---- each line that is played was read, so it is in its grammar

plain_is : (form : Form) (found : SessionLine) → IsLine form (line.Session found) → HasStampedLine found
plain_is Session found h = old_line found h
plain_is Acts found h = absurd h
plain_is Session2 found h = absurd h
plain_is Shell found h = absurd h

stamped_is : (form : Form) (stamp : Stamp) (found : SessionLine) → IsLine form (line.Stamped stamp found) →
    HasStampedLine found
stamped_is Session2 stamp found h = h.1
stamped_is Acts stamp found h = absurd h
stamped_is Session stamp found h = absurd h
stamped_is Shell stamp found h = absurd h

by_read : (form : Form) (moment : ℕ) (raw : List ℕ) (o : Option Line) → line_of form raw ≡ o →
    (rest : Stamp → List SessionLine) → ((stamp : Stamp) → AllByRecursion HasStampedLine (rest stamp)) →
    AllByRecursion HasStampedLine (lines_by (meaning_of_line moment o) rest)
by_read form moment raw None e rest k = tt
by_read form moment raw (Some (line.Session found)) e rest k =
    (plain_is form found (reads_only form raw (line.Session found) e).1, k unstamped)
by_read form moment raw (Some (line.Stamped stamp found)) e rest k = by (nat_lt stamp.moment moment)
  where
    by : (b : Bool) → AllByRecursion HasStampedLine
        (lines_by (if b then meaning.Bad else meaning.Play stamp found) rest)
    by true = tt
    by false = (stamped_is form stamp found (reads_only form raw (line.Stamped stamp found) e).1, k stamp)
by_read form moment raw (Some (line.Header limits)) e rest k = tt
by_read form moment raw (Some (line.Act act)) e rest k = tt
by_read form moment raw (Some (line.Shell step)) e rest k = tt
by_read form moment raw (Some line.End) e rest k = tt

have_lines : (stage : Stage) (lines : List (List ℕ)) → AllByRecursion HasStampedLine (session_lines stage lines)
unfolding meaning_of
have_lines stage [] = tt
have_lines stage (raw ∷ lines) =
    by_read stage.form stage.moment raw (line_of stage.form raw) refl
    (λ stamp. session_lines (next_stage stage stamp) lines) (λ stamp. have_lines (next_stage stage stamp) lines)

-- ---- and so are the limits of its header

header_limited : (form : Form) (limits : Limits) → IsLine form (line.Header limits) → IsLimits limits
header_limited Session limits h =
    let (entries, store, weight) = h in
    let most = entries.1 in
    ((entries.0, omega (arith, most)), store, (omega (arith, weight), omega (arith, weight)))
header_limited Session2 limits h = h
header_limited Acts limits h = absurd h
header_limited Shell limits h = absurd h

header_is : (o : Option Line) (limits : Limits) → header_of_line o ≡ Some limits → o ≡ Some (line.Header limits)
header_is (Some (line.Header found)) limits e = ap (λ (x : Limits). Some (line.Header x)) (same_Some found limits e)
header_is None limits e = cc
header_is (Some (line.Session found)) limits e = cc
header_is (Some (line.Stamped stamp found)) limits e = cc
header_is (Some (line.Act act)) limits e = cc
header_is (Some (line.Shell step)) limits e = cc
header_is (Some line.End) limits e = cc

read_limited : (form : Form) (raw : List ℕ) (limits : Limits) → header_of form raw ≡ Some limits → IsLimits limits
unfolding header_of
read_limited form raw limits e =
    header_limited form limits
    (reads_only form raw (line.Header limits) (header_is (line_of form raw) limits e)).1

either_limited : (a b : Option Limits) (opening : Opening) → opening_by a b ≡ Some opening →
    ((limits : Limits) → a ≡ Some limits → IsLimits limits) →
    ((limits : Limits) → b ≡ Some limits → IsLimits limits) → IsLimits opening.limits
either_limited (Some limits) b opening e f g =
    subst (λ (o : Opening). IsLimits o.limits) (same_Some (record { form = Session; limits = limits }) opening e)
    (f limits refl)
either_limited None (Some limits) opening e f g =
    subst (λ (o : Opening). IsLimits o.limits) (same_Some (record { form = Session2; limits = limits }) opening e)
    (g limits refl)
either_limited None None opening e f g = cc

opening_limited : (raw : List ℕ) (opening : Opening) → opening_of raw ≡ Some opening → IsLimits opening.limits
opening_limited raw opening e =
    either_limited (header_of Session raw) (header_of Session2 raw) opening e (read_limited Session raw)
    (read_limited Session2 raw)

pub sessions_are_held : SessionsAreHeld
sessions_are_held opening first more is =
    lines_are_held opening.limits (session_lines (first_stage opening.form) more) (opening_limited first opening is)
    (have_lines (first_stage opening.form) more)
