-- Such a line behind a stamp is read as those bytes with that stamp.
use Rattle.std.proofs.Common.{◌≡◌, ℕ, ◌≤◌, ◌==◌, List, [], ◌∷◌, ◌++◌, length, Some, refl, ap, ◌∙◌}
use Rattle.std.specs.Prelude.{codes}
use Rattle.std.specs.List.{slice_split}
use Rattle.std.proofs.lemmas.Bool.{le-leb}
use Rattle.broker_steps.specs.declared.stamp.Stamp.{Stamp}
use Rattle.broker_steps.specs.Ranges.{piece_limit}
use Rattle.session_text.specs.declared.line.Form.TheVariants.{Session2}
use Rattle.session_text.specs.declared.line.Line.TheVariants as lines
use Rattle.session_text.specs.declared.line.SessionLine.TheVariants as sessions
use Rattle.session_text.specs.Reading.{line_limit, line_of}
use Rattle.session_text.specs.SessionGrammar.{session_words, stamped_words}
use Rattle.session_text.specs.Words.{number_of, long_number_of, bytes_of}
use Rattle.session_text.proofs.WordKinds.{numbers, long_numbers, pieces}
use Rattle.session_text.proofs.PieceLines.{three_words}
use Rattle.session_text.proofs.SpelledStamps.{stamped_complete}

pub stamped_piece_read : (line first behind second spoken rest digits word bytes : List ℕ) (moment author n : ℕ) →
    length line ≤ line_limit →
    slice_split (λ b. b == 32) line ≡ first ∷ slice_split (λ b. b == 32) behind →
    slice_split (λ b. b == 32) behind ≡ second ∷ slice_split (λ b. b == 32) spoken →
    spoken ≡ codes "bytes " ++ rest →
    slice_split (λ b. b == 32) rest ≡ digits ∷ slice_split (λ b. b == 32) word →
    long_number_of first ≡ Some moment → long_number_of second ≡ Some author →
    number_of digits ≡ Some n → bytes_of piece_limit word ≡ Some bytes →
    line_of Session2 line ≡ Some (lines.Stamped (record { moment = moment; author = author }) (sessions.Bytes n bytes))
unfolding line_of
stamped_piece_read line first behind second spoken rest digits word bytes moment author n small l b s r em ea en ew =
    let km = long_numbers.sound first moment em in
    let ka = long_numbers.sound second author ea in
    let kn = numbers.sound digits n en in
    let kw = (pieces piece_limit).sound word bytes ew in
    let stamp : Stamp = record { moment = moment; author = author } in
    let same : first ∷ second ∷ codes "bytes" ∷ digits ∷ word ∷ [] ≡
    stamped_words stamp (session_words (sessions.Bytes n bytes)) =
    rw (km.1, ka.1, kn.1, kw.1) refl in
    let words : slice_split (λ b. b == 32) line ≡ stamped_words stamp (session_words (sessions.Bytes n bytes)) =
    l
    ∙ ap (λ ws. first ∷ ws) (b ∙ ap (λ ws. second ∷ ws) (three_words spoken rest digits word bytes s r ew))
    ∙ same in
    rw (le-leb (length line) line_limit small, words)
    (stamped_complete stamp (sessions.Bytes n bytes) (km.0, ka.0) (kn.0, kw.0))
