-- The reading of a line is the inverse of its spelling.
use Rattle.std.proofs.Common.{◌≡◌, ℕ, true, false, cond, leb, eqb, List, [], ◌∷◌, length, Some, None, Result, Ok, Err, refl, sym, ap, ◌∙◌}
use Rattle.std.specs.Prelude.{IfOk}
use Rattle.std.specs.List.{slice_split, join_with_byte}
use Rattle.std.proofs.lemmas.Bool.{le-leb, leb-true}
use Rattle.std.proofs.lemmas.List.Splits.{join_with_byte-slice_split}
use Rattle.session_text.specs.declared.line.BadLine.{BadLine}
use Rattle.session_text.specs.Reading.{line_limit, Reads}
use Rattle.session_text.proofs.LinesSplit.{AllLack, split_join}
use Rattle.trial_script.specs.declared.line.Line.{Line}
use Rattle.trial_script.specs.Grammar.{line_words, spelling, IsLine}
use Rattle.trial_script.specs.Reading.{line_of_words, line_of}
use Rattle.trial_script.proofs.SpelledLines.{spaceless, words_read}
use Rattle.trial_script.proofs.ReadLines.{words_sound}

-- a line has a word
words_found : (ws : List (List ℕ)) (line : Line) → AllLack 32 ws → line_of_words ws ≡ Some line →
    slice_split (λ b. eqb b 32) (join_with_byte 32 ws) ≡ ws
unfolding line_of_words
words_found [] line h e = absurd (cc e)
words_found (w ∷ ws) line h e = split_join w ws h.0 h.1

pub reads_each : (line : Line) → IsLine line → line_of (spelling line) ≡ Some line
unfolding line_of
reads_each line h =
    let within : leb (length (spelling line)) line_limit ≡ true = le-leb (length (spelling line)) line_limit h.1 in
    rw within (ap line_of_words (words_found (line_words line) line (spaceless line h.0) (words_read line h.0))
    ∙ words_read line h.0)

pub reads_only : (bytes : List ℕ) (line : Line) → line_of bytes ≡ Some line → (bytes ≡ spelling line) × IsLine line
unfolding line_of
reads_only bytes line e =
    let ws = slice_split (λ b. eqb b 32) bytes in
    elim (leb (length bytes) line_limit) as
    (λ t. leb (length bytes) line_limit ≡ t → cond t (line_of_words ws) None ≡ Some line →
    (bytes ≡ spelling line) × IsLine line) [
      | true ↦ λ within f.
          let read = words_sound ws line f in
          let same : bytes ≡ spelling line =
          sym (join_with_byte-slice_split 32 bytes) ∙ ap (join_with_byte 32) read.same in
          (same, (read.has_line, rw (sym same) (leb-true (length bytes) line_limit within)))
      | false ↦ λ within f. absurd (cc f)
    ] refl e

-- what was read is a line of a script
pub read_is_line : (bytes : List ℕ) (r : Result Line BadLine) → Reads r (line_of bytes) → IfOk r IsLine
read_is_line bytes (Ok line) e = (reads_only bytes line e).1
read_is_line bytes (Err d) e = tt
