-- The session of a seat is read as its lines.
use Rattle.std.proofs.Common.{◌≡◌, ℕ, ◌+◌, ◌<◌, ◌≤◌, Bool, false, List, [], ◌∷◌, ◌++◌, length, Option, Some, refl, ap, ◌∙◌, arith}
use Rattle.std.specs.Prelude.{codes}
use Rattle.broker_steps.specs.declared.limits.Limits.{Limits}
use Rattle.session_text.specs.declared.line.Form.TheVariants.{Session, Session2}
use Rattle.session_text.specs.declared.line.Line.TheVariants as line
use Rattle.session_text.specs.Grammar.{spelling}
use Rattle.session_text.specs.SessionGrammar.{AreOldLimits, header_words}
use Rattle.session_text.proofs.LinesReadBack.{reads_each}
use Rattle.session_text.proofs.LinesSplit.{IsOutside, decimal_lacks, join_lacks}
use Rattle.session_text.proofs.SpelledSteps.{header_parts}
use Rattle.wio_core.specs.Lines.{LacksFeed}
use Rattle.program_run.specs.declared.reading.TheConstants.{INPUT_LIMIT}
use Rattle.program_run.specs.Endings.{Answer}
use Rattle.program_run.specs.Lines.{bytes_of, is_cut, lines_read, size_of}
use Rattle.program_run.specs.Migrates.{replay}
use Rattle.program_run.specs.Reading.{LackFeeds}
use Rattle.program_run.specs.Run.{answer_by, output_of}
use Rattle.program_run.specs.Session.{first_stage, header_of, header_of_line, opening_by, by_opening, session_answer, session_from, session_of_lines, unplayed}
use Rattle.program_run.proofs.ReadLines.{input_ended}
use Rattle.program_run.proofs.InputSplits.{lack_both, length_of, size_both}
use Rattle.law_seats.specs.SeatTexts.{given, session_for, session_lines}
use Rattle.law_seats.proofs.WholeTexts.{lines_back}
use Rattle.law_seats.proofs.LinesShorter.{given_shorter}
use Rattle.law_seats.proofs.MarkedLines.{lacks_feed}

-- ---- the session

feed : IsOutside 10
feed = record { no_digit = λ h. omega arith; no_hex = refl; no_dash = refl }

abbrev header_line : Limits → List ℕ
header_line limits = spelling Session (line.Header limits)

header_lacks : (limits : Limits) → AreOldLimits limits → LacksFeed (header_line limits)
header_lacks limits h =
    lacks_feed (header_line limits)
    (join_lacks 10 (header_words limits) refl (
      refl,
      (
        refl,
        (
          decimal_lacks 10 feed limits.entries (omega (arith, h.0.1)),
          (decimal_lacks 10 feed limits.store (omega (arith, h.1.1)), tt),
        ),
      ),
    ))

session_lack : (limits : Limits) (seat : ℕ) (lines : List (List ℕ)) → AreOldLimits limits → LackFeeds lines
    → LackFeeds (session_lines limits seat lines)
session_lack limits seat lines h lack = (
  header_lacks limits h,
  lack_both (given seat lines) (codes "end" ∷ []) ((given_shorter seat lines).lack lack)
      (lacks_feed (codes "end") refl, tt),
)

session_size : (limits : Limits) (seat : ℕ) (lines : List (List ℕ)) → AreOldLimits limits →
    size_of lines ≤ INPUT_LIMIT + 1
    → length (session_for limits seat lines) < INPUT_LIMIT
session_size limits seat lines h few =
    let header = (header_parts limits h).within in
    let g = given_shorter seat lines in
    let size = g.size in
    let most = g.few in
    let both = size_both (given seat lines) (codes "end" ∷ []) in
    omega (arith, header, size, most, both, few, length_of (session_lines limits seat lines))

pub session_read : (limits : Limits) (seat : ℕ) (lines : List (List ℕ)) → AreOldLimits limits → LackFeeds lines
    → size_of lines ≤ INPUT_LIMIT + 1
    → (is_cut INPUT_LIMIT (session_for limits seat lines) ≡ false)
    × (lines_read INPUT_LIMIT (session_for limits seat lines) ≡ session_lines limits seat lines)
session_read limits seat lines h lack few =
    let all = session_lines limits seat lines in
    let bytes = bytes_of all in
    input_ended {limit = INPUT_LIMIT} all bytes bytes refl (session_size limits seat lines h few)
    (lines_back all (session_lack limits seat lines h lack))

-- ---- how it is replayed

replayed : (bytes : List ℕ) →
    output_of replay bytes ≡ (session_of_lines (is_cut INPUT_LIMIT bytes) (lines_read INPUT_LIMIT bytes)).0
unfolding output_of answer_by session_answer lines_read
replayed bytes = refl

is_header : (limits : Limits) → AreOldLimits limits → header_of Session (header_line limits) ≡ Some limits
unfolding header_of
is_header limits h = ap header_of_line (reads_each Session (line.Header limits) h)

opens : (cut : Bool) (limits : Limits) (lines : List (List ℕ)) (o p : Option Limits) → o ≡ Some limits
    → by_opening cut (opening_by o p) lines ≡ session_from limits cut 1 (first_stage Session) unplayed lines
opens cut limits lines o p is = ap (λ (q : Option Limits). by_opening cut (opening_by q p) lines) is

pub session_replayed : (limits : Limits) (seat : ℕ) (lines : List (List ℕ)) → AreOldLimits limits → LackFeeds lines
    → size_of lines ≤ INPUT_LIMIT + 1
    → output_of replay (session_for limits seat lines)
    ≡ (session_from limits false 1 (first_stage Session) unplayed (given seat lines ++ codes "end" ∷ [])).0
session_replayed limits seat lines h lack few =
    let (whole, read) = session_read limits seat lines h lack few in
    let rest : List (List ℕ) = given seat lines ++ codes "end" ∷ [] in
    replayed (session_for limits seat lines)
    ∙ ap (λ (b : Bool). (session_of_lines b (lines_read INPUT_LIMIT (session_for limits seat lines))).0) whole
    ∙ ap (λ (l : List (List ℕ)). (session_of_lines false l).0) read
    ∙ ap (λ (a : Answer). a.0)
    (opens false limits rest (header_of Session (header_line limits)) (header_of Session2 (header_line limits))
    (is_header limits h))
