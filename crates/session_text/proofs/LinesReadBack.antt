-- The reading of a line is the inverse of its spelling.
use Rattle.std.proofs.Common.{◌≡◌, ℕ, true, false, cond, eqb, List, [], ◌∷◌, length, Option, Some, None, Result, Ok, Err, refl, sym, ap, ◌∙◌}
use Rattle.std.specs.Prelude.{codes, nat_le, IfOk}
use Rattle.std.specs.List.{slice_split, join_with_byte}
use Rattle.std.proofs.lemmas.Bool.{le-leb}
use Rattle.std.proofs.lemmas.List.Splits.{join_with_byte-slice_split}
use Rattle.std.proofs.lemmas.Slice.Eq.{bytes_eq-Decides}
use Rattle.relay_model.specs.declared.act.Act.{Act}
use Rattle.broker_steps.specs.declared.step.ShellStep.{ShellStep}
use Rattle.session_text.specs.declared.line.Form.{Form}
use Rattle.session_text.specs.declared.line.Form.TheVariants.{Acts, Session, Session2, Shell}
use Rattle.session_text.specs.declared.line.Line.{Line}
use Rattle.session_text.specs.declared.line.Line.TheVariants as lines
use Rattle.session_text.specs.declared.line.BadLine.{BadLine}
use Rattle.session_text.specs.Grammar.{line_words, spelling, IsLine}
use Rattle.session_text.specs.Words.{◌>>=◌}
use Rattle.session_text.specs.StampedReading.{link_of}
use Rattle.session_text.specs.Reading.{act_of, is_end, line_of_words, line_of, line_limit, Reads}
use Rattle.session_text.proofs.TestsLetThrough.{let_through}
use Rattle.session_text.proofs.WordsByKind.{Parts, IsRead, none, named, made}
use Rattle.session_text.proofs.SpelledActs.{parts, act_complete}
use Rattle.session_text.proofs.ReadActs.{act_sound}
use Rattle.session_text.proofs.SpelledSteps.{old_line, link_parts, session_parts, header_parts, session_complete, header_complete, end_complete}
use Rattle.session_text.proofs.SpelledStamps.{stamped_parts, long_header_parts, link_complete, stamped_complete, long_header_complete, end_2_complete}
use Rattle.session_text.proofs.ReadSteps.{session_sound}
use Rattle.session_text.proofs.ReadStamps.{link_sound, session_2_sound}

-- ---- what is spelled is read

pub line_parts : (form : Form) (line : Line) → IsLine form line → Parts (line_words form line)
line_parts Acts (lines.Act act) h = parts act h
line_parts Acts lines.End h = named (codes "end") [] 0 none refl
line_parts Session (lines.Header limits) h = header_parts limits h
line_parts Session (lines.Session line) h = session_parts line (old_line line h)
line_parts Session lines.End h = named (codes "end") [] 0 none refl
line_parts Session2 (lines.Header limits) h = long_header_parts limits h
line_parts Session2 (lines.Stamped stamp line) h = stamped_parts stamp line h.0 h.1
line_parts Session2 lines.End h = named (codes "end") [] 0 none refl
line_parts Shell (lines.Shell step) h = link_parts step h
line_parts _ _ h = absurd h

words_read : (form : Form) (line : Line) → IsLine form line → line_of_words form (line_words form line) ≡ Some line
words_read Acts (lines.Act act) h = let found = act_complete act h in rw (found.0, found.1) refl
words_read Acts lines.End h = refl
words_read Session (lines.Header limits) h = header_complete limits h
words_read Session (lines.Session line) h = session_complete line h
words_read Session lines.End h = end_complete
words_read Session2 (lines.Header limits) h = long_header_complete limits h
words_read Session2 (lines.Stamped stamp line) h = stamped_complete stamp line h.0 h.1
words_read Session2 lines.End h = end_2_complete
words_read Shell (lines.Shell step) h = rw (link_complete step h) refl
words_read _ _ h = absurd h

pub reads_each : (form : Form) (line : Line) → IsLine form line → line_of form (spelling form line) ≡ Some line
unfolding line_of
reads_each form line h =
    let known = line_parts form line h in
    let within : nat_le (length (spelling form line)) line_limit ≡ true =
    le-leb (length (spelling form line)) line_limit known.within in
    rw within (ap (line_of_words form) known.split ∙ words_read form line h)

-- ---- what is read is spelled so

is_end_sound : (ws : List (List ℕ)) → is_end ws ≡ true → ws ≡ codes "end" ∷ []
is_end_sound [] e = absurd (cc e)
is_end_sound (k ∷ []) e = ap (λ w. w ∷ []) ((bytes_eq-Decides k (codes "end")).0 e)
is_end_sound (k ∷ a ∷ ws) e = absurd (cc e)

abbrev IsReadLine : Form → List (List ℕ) → Line → Type 0
IsReadLine form = IsRead (line_words form) (IsLine form)

act_line : (ws : List (List ℕ)) (line : Line) (o : Option Act) → act_of ws ≡ o →
    (o >>= (λ act. Some (lines.Act act))) ≡ Some line → IsReadLine Acts ws line
act_line ws line None is e = absurd (cc e)
act_line ws line (Some act) is e = let read =
    act_sound ws act is in made ws (lines.Act act) line e read.same read.has_line

shell_line : (ws : List (List ℕ)) (line : Line) (o : Option ShellStep) → link_of ws ≡ o →
    (o >>= (λ step. Some (lines.Shell step))) ≡ Some line → IsReadLine Shell ws line
shell_line ws line None is e = absurd (cc e)
shell_line ws line (Some step) is e = let read =
    link_sound ws step is in made ws (lines.Shell step) line e read.same read.has_line

words_sound : (form : Form) (ws : List (List ℕ)) (line : Line) → line_of_words form ws ≡ Some line →
    IsReadLine form ws line
words_sound Acts ws line e =
    elim (is_end ws) as
    (λ b. is_end ws ≡ b → cond b (Some lines.End) (act_of ws >>= (λ act. Some (lines.Act act))) ≡ Some line →
    IsReadLine Acts ws line) [
      | true ↦ λ is f. made ws lines.End line f (is_end_sound ws is) tt
      | false ↦ λ is f. act_line ws line (act_of ws) refl f
    ] refl e
words_sound Session ws line e = session_sound ws line e
words_sound Session2 ws line e = session_2_sound ws line e
words_sound Shell ws line e = shell_line ws line (link_of ws) refl e

pub reads_only : (form : Form) (bytes : List ℕ) (line : Line) → line_of form bytes ≡ Some line →
    (bytes ≡ spelling form line) × IsLine form line
unfolding line_of
reads_only form bytes line e =
    let ws = slice_split (λ b. eqb b 32) bytes in
    let read = words_sound form ws line
    (let_through (nat_le (length bytes) line_limit) (line_of_words form ws) line e) in
    (sym (join_with_byte-slice_split 32 bytes) ∙ ap (join_with_byte 32) read.same, read.has_line)

-- what was read is a line of the form
pub read_is_line : (form : Form) (bytes : List ℕ) (r : Result Line BadLine) → Reads r (line_of form bytes) →
    IfOk r (IsLine form)
read_is_line form bytes (Ok line) e = (reads_only form bytes line e).1
read_is_line form bytes (Err d) e = tt
