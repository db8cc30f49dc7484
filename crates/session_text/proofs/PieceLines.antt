-- A line of three words that are its name, a number and bytes is read as those bytes of a peer.
use Rattle.std.proofs.Common.{◌≡◌, ℕ, ◌≤◌, ◌==◌, List, [], ◌∷◌, ◌++◌, length, Some, refl, ap, ◌∙◌}
use Rattle.std.specs.Prelude.{codes}
use Rattle.std.specs.List.{slice_split}
use Rattle.std.proofs.lemmas.Bool.{le-leb}
use Rattle.std.proofs.lemmas.List.Splits.{slice_split_at}
use Rattle.broker_steps.specs.Ranges.{piece_limit}
use Rattle.session_text.specs.declared.line.Form.TheVariants.{Session}
use Rattle.session_text.specs.declared.line.Line.TheVariants as lines
use Rattle.session_text.specs.declared.line.SessionLine.TheVariants as sessions
use Rattle.session_text.specs.Reading.{line_limit, line_of}
use Rattle.session_text.specs.SessionReading.{three_session_words}
use Rattle.session_text.specs.Words.{hex_word, number_of, bytes_of}
use Rattle.session_text.proofs.LinesSplit.{lacks_all, split_join}
use Rattle.session_text.proofs.WordKinds.{pieces}

-- bytes have no space

one_word : (word bytes : List ℕ) → bytes_of piece_limit word ≡ Some bytes → slice_split (λ b. b == 32) word ≡ word ∷ []
one_word word bytes e =
    let kind = pieces piece_limit in
    let known = kind.sound word bytes e in
    rw (known.1) (split_join (hex_word bytes) [] (kind.spaceless bytes known.0) tt)

pub three_words : (line rest digits word bytes : List ℕ) → line ≡ codes "bytes " ++ rest →
    slice_split (λ b. b == 32) rest ≡ digits ∷ slice_split (λ b. b == 32) word →
    bytes_of piece_limit word ≡ Some bytes →
    slice_split (λ b. b == 32) line ≡ codes "bytes" ∷ digits ∷ word ∷ []
three_words line rest digits word bytes l r e =
    ap (slice_split (λ b. b == 32)) l
    ∙ slice_split_at (λ b. b == 32) (codes "bytes") 32 rest (lacks_all 32 (codes "bytes") refl) refl
    ∙ ap (λ ws. codes "bytes" ∷ ws) (r ∙ ap (λ ws. digits ∷ ws) (one_word word bytes e))

three_read : (digits word bytes : List ℕ) (n : ℕ) → number_of digits ≡ Some n → bytes_of piece_limit word ≡ Some bytes →
    three_session_words (codes "bytes") digits word ≡ Some (lines.Session (sessions.Bytes n bytes))
unfolding three_session_words
three_read digits word bytes n e f = rw (e, f) refl

pub piece_read : (line rest digits word bytes : List ℕ) (n : ℕ) → length line ≤ line_limit →
    line ≡ codes "bytes " ++ rest → slice_split (λ b. b == 32) rest ≡ digits ∷ slice_split (λ b. b == 32) word →
    number_of digits ≡ Some n → bytes_of piece_limit word ≡ Some bytes →
    line_of Session line ≡ Some (lines.Session (sessions.Bytes n bytes))
unfolding line_of
piece_read line rest digits word bytes n small l r e f =
    rw (le-leb (length line) line_limit small, three_words line rest digits word bytes l r f)
    (three_read digits word bytes n e f)
