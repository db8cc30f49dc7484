-- Each seat is told what a replay of its own session writes.
use Rattle.std.proofs.Common.{◌≡◌, ℕ, zero, suc, ◌+◌, ◌-◌, ◌<◌, ◌≤◌, Bool, true, false, eqb, leb, List, [], ◌∷◌, ◌++◌, length, Option, Some, None, refl, sym, ap, subst, ◌∙◌, arith}
use Rattle.std.specs.Prelude.{codes, if◌then◌else◌, replicate}
use Rattle.std.specs.List.{slice_get, slice_split}
use Rattle.std.specs.Str.{bytes_eq}
use Rattle.std.proofs.lemmas.List.{length-replicate}
use Rattle.broker_steps.specs.declared.limits.Limits.{Limits}
use Rattle.broker_steps.specs.Ranges.{form_1_entry_limit, form_1_weight, store_limit}
use Rattle.session_text.specs.declared.line.Form.TheVariants.{Session}
use Rattle.session_text.specs.declared.line.Line.TheVariants as line
use Rattle.session_text.specs.Grammar.{spelling}
use Rattle.session_text.specs.declared.seat_line.SeatsHeader.{SeatsHeader}
use Rattle.session_text.specs.SeatLines.{header_of_words, seat_limit, seats_header_of}
use Rattle.session_text.specs.SessionGrammar.{AreOldLimits}
use Rattle.session_text.specs.Words.{◌>>=◌, count_of}
use Rattle.session_text.proofs.SeatLines.{header_valid}
use Rattle.session_text.proofs.SpelledSteps.{old_entry_counts, store_counts}
use Rattle.seat_set.specs.Seats.{Seat, fresh}
use Rattle.program_run.specs.declared.reading.TheConstants.{INPUT_LIMIT}
use Rattle.program_run.specs.declared.status.Status.{Status}
use Rattle.program_run.specs.declared.status.Status.TheVariants as status
use Rattle.program_run.specs.Endings.{Answer}
use Rattle.program_run.specs.Lines.{bytes_of, is_cut, lines_read, size_of}
use Rattle.program_run.specs.Migrates.{replay}
use Rattle.program_run.specs.Reading.{LackFeeds}
use Rattle.program_run.specs.Run.{answer_by, output_of, status_of}
use Rattle.program_run.specs.Session.{first_stage, session_from, unplayed}
use Rattle.program_run.specs.Seats.{by_seats_header, fresh_seats, seats_answer, seats_from, seats_of_lines}
use Rattle.program_run.proofs.WholeLines.{read_lacks, read_size}
use Rattle.law_seats.specs.SeatTexts.{given, session_for, told_to}
use Rattle.law_seats.specs.SeatsLaws.{IsAsFarAs, IsPlayedOut, SeatsAreIsolated, SeatsAreToldAlone, replay_seats}
use Rattle.law_seats.proofs.SeatsFollow.{seats_tell}
use Rattle.law_seats.proofs.SessionsRead.{session_replayed}

-- ---- the header

record IsSet (header : SeatsHeader) : Type 0 where
  few : header.count ≤ 8
  limits : AreOldLimits header.limits

set_by : (n a b : List ℕ) (header : SeatsHeader) (c e t : Option ℕ) → count_of seat_limit n ≡ c →
    count_of form_1_entry_limit a ≡ e
    → count_of store_limit b ≡ t
    → (c >>= (λ count. e >>= (λ entries. t >>= (λ store.
    Some (record { count = count; limits = record { entries = entries; store = store; weight = form_1_weight } })))))
    ≡ Some header
    → IsSet header
set_by n a b header (Some count) (Some entries) (Some store) is1 is2 is3 e =
    let made : SeatsHeader =
    record { count = count; limits = record { entries = entries; store = store; weight = form_1_weight } } in
    let same : made ≡ header = some_header made header e in
    let valid = header_valid n a b count entries store is1 is2 is3 in
    let few = valid.0.1 in
    subst IsSet same
    (record {
      few = few;
      limits = ((old_entry_counts.sound a entries is2).0, (store_counts.sound b store is3).0, refl);
    })
  where
    some_header : (x y : SeatsHeader) → Some x ≡ Some y → x ≡ y
    some_header x y e = cc e
set_by n a b header None e t is1 is2 is3 f = absurd (cc f)
set_by n a b header (Some count) None t is1 is2 is3 f = absurd (cc f)
set_by n a b header (Some count) (Some entries) None is1 is2 is3 f = absurd (cc f)

words_by : (k n a b : List ℕ) (header : SeatsHeader) (t : Bool)
    → (if t then count_of seat_limit n >>=
    (λ count. count_of form_1_entry_limit a >>= (λ entries. count_of store_limit b >>= (λ store.
    Some (record { count = count; limits = record { entries = entries; store = store; weight = form_1_weight } }))))
    else None) ≡ Some header
    → IsSet header
words_by k n a b header true e =
    set_by n a b header (count_of seat_limit n) (count_of form_1_entry_limit a)
    (count_of store_limit b) refl refl refl e
words_by k n a b header false e = absurd (cc e)

words_set : (words : List (List ℕ)) (header : SeatsHeader) → header_of_words words ≡ Some header → IsSet header
unfolding header_of_words
words_set [] header e = absurd (cc e)
words_set (k ∷ []) header e = absurd (cc e)
words_set (k ∷ n ∷ []) header e = absurd (cc e)
words_set (k ∷ n ∷ a ∷ []) header e = absurd (cc e)
words_set (k ∷ n ∷ a ∷ b ∷ []) header e = words_by k n a b header (bytes_eq k (codes "seats")) e
words_set (k ∷ n ∷ a ∷ b ∷ c ∷ words) header e = absurd (cc e)

header_by : (first : List ℕ) (header : SeatsHeader) (t : Bool)
    → (if t then header_of_words (slice_split (λ b. eqb b 32) first) else None) ≡ Some header → IsSet header
header_by first header true e = words_set (slice_split (λ b. eqb b 32) first) header e
header_by first header false e = absurd (cc e)

header_set : (first : List ℕ) (header : SeatsHeader) → seats_header_of first ≡ Some header → IsSet header
unfolding seats_header_of
header_set first header e = header_by first header (leb (length first) 8400) e

-- ---- the seats at first

same_at : (n i : ℕ) (x : Seat) → i < n → slice_get (replicate n x) i ≡ Some x
same_at zero i x lt = absurd (omega (arith, lt))
same_at (suc n) zero x lt = refl
same_at (suc n) (suc i) x lt = same_at n i x (omega (arith, lt))

-- ---- the answer for an input

seats_answered : (input : List ℕ)
    → ((output_of replay_seats input, status_of replay_seats input)
    ≡ seats_of_lines (is_cut INPUT_LIMIT input) (lines_read INPUT_LIMIT input))
unfolding output_of status_of answer_by seats_answer lines_read
seats_answered input = refl

headed : (cut : Bool) (input first : List ℕ) (lines : List (List ℕ)) (header : SeatsHeader) →
    lines_read INPUT_LIMIT input ≡ first ∷ lines
    → seats_header_of first ≡ Some header
    → seats_of_lines cut (lines_read INPUT_LIMIT input) ≡ seats_from cut 1 (fresh_seats header) lines
headed cut input first lines header read is =
    ap (seats_of_lines cut) read ∙ ap (λ (o : Option SeatsHeader). by_seats_header cut o lines) is

-- ---- the law

as_answered : (told : Answer → List ℕ) (a b : Answer) (own text : List ℕ) → a ≡ b → text ≡ own →
    IsAsFarAs b.1 (told b) own
    → IsAsFarAs a.1 (told a) text
as_answered told a b own text e f h =
    subst (λ (t : List ℕ). IsAsFarAs a.1 (told a) t) (sym f)
    (subst (λ (x : Answer). IsAsFarAs x.1 (told x) own) (sym e) h)

pub told_alone : SeatsAreToldAlone
told_alone input header lines seat headed_by some few =
    let first = headed_by.first in
    let set = header_set first header headed_by.is in
    let eight = set.few in
    let cut = is_cut INPUT_LIMIT input in
    let is : seat ≡ 1 + (seat - 1) = omega (arith, some) in
    let still : length (fresh_seats header) ≤ 8 =
    omega (arith, eight, length-replicate header.count (fresh header.limits)) in
    let tells = seats_tell cut seat (seat - 1) 1 1 (fresh_seats header) (fresh header.limits) lines is
    (omega (arith, few, eight)) still
    (same_at header.count (seat - 1) (fresh header.limits) (omega (arith, some, few))) in
    let lack : LackFeeds lines = (subst LackFeeds headed_by.read (read_lacks INPUT_LIMIT input)).1 in
    let size : size_of lines ≤ INPUT_LIMIT + 1 =
    omega (arith, read_size INPUT_LIMIT input, ap size_of headed_by.read) in
    as_answered (λ (a : Answer). told_to seat a.0) (output_of replay_seats input, status_of replay_seats input)
    (seats_from cut 1 (fresh_seats header) lines)
    (session_from header.limits false 1 (first_stage Session) unplayed (given seat lines ++ codes "end" ∷ [])).0
    (output_of replay (session_for header.limits seat lines))
    (seats_answered input ∙ headed cut input first lines header headed_by.read headed_by.is)
    (session_replayed header.limits seat lines set.limits lack size)
    tells.told

-- ---- isolation

by_status : (s : Status) (told text : List ℕ) → IsPlayedOut s → IsAsFarAs s told text → told ≡ text
by_status status.Ok told text out h = h
by_status status.JournalFull told text out h = h
by_status status.BadWords told text out h = absurd out
by_status status.BadSession told text out h = absurd out
by_status status.ReadFault told text out h = absurd out
by_status status.WriteFault told text out h = absurd out
by_status status.NoMemory told text out h = absurd out
by_status status.InputLong told text out h = absurd out
by_status status.AuditNo told text out h = absurd out

pub isolated : SeatsAreIsolated
isolated one other header header' lines lines' seat h h' limits some few few' out given_same =
    let alone = by_status (status_of replay_seats one) (told_to seat (output_of replay_seats one))
    (output_of replay (session_for header.limits seat lines))
    out (told_alone one header lines seat h some few) in
    let same : output_of replay (session_for header'.limits seat lines') ≡ told_to seat (output_of replay_seats one) =
    sym (alone ∙ ap (λ (l : Limits). output_of replay (session_for l seat lines)) limits
    ∙ ap (λ (g : List (List ℕ)). output_of replay
    (bytes_of (spelling Session (line.Header header'.limits) ∷ (g ++ codes "end" ∷ [])))) given_same) in
    subst (λ (t : List ℕ). IsAsFarAs (status_of replay_seats other) (told_to seat (output_of replay_seats other)) t)
    same
    (told_alone other header' lines' seat h' some few')
