-- Lines with a seat's mark are told to that seat alone.
use Rattle.std.proofs.Common.{◌≡◌, ◌≢◌, ℕ, zero, suc, ◌+◌, ◌<◌, ◌/◌, ◌%◌, Bool, true, false, eqb, not, List, [], ◌∷◌, ◌++◌, map, Option, Some, None, refl, sym, ap, ◌∙◌, arith, append_assoc}
use Rattle.std.specs.Prelude.{codes, if◌then◌else◌, nat_lt}
use Rattle.std.specs.Fmt.{decimal, digits, digits_onto, digit_glyph}
use Rattle.std.proofs.lemmas.Bool.{ne_eqb, eq-eqb, and_parts}
use Rattle.session_text.proofs.LinesSplit.{lacks}
use Rattle.std.proofs.lemmas.Fmt.{decimal_digit}
use Rattle.std.proofs.lemmas.List.Elements.{All-nil, All-cons, All-append}
use Rattle.wio_core.specs.Lines.{LacksFeed}
use Rattle.lines_transcript.specs.Seats.{seat_mark, seat_lines, seat_end_line, seat_full_line}
use Rattle.lines_transcript.proofs.SeatTexts.{line_marked}
use Rattle.program_run.specs.Endings.{end_line, full_line}
use Rattle.program_run.specs.Lines.{bytes_of}
use Rattle.program_run.specs.Reading.{LackFeeds}
use Rattle.law_seats.specs.SeatTexts.{behind, with_line, told_lines, told_to}
use Rattle.law_seats.proofs.WholeTexts.{IsWhole, told_of}

-- ---- the mark

pub mark_is : (seat : ℕ) → seat < 10 → seat_mark seat ≡ (48 + seat) ∷ 32 ∷ []
mark_is seat small = ap (λ (d : List ℕ). d ++ 32 ∷ []) (decimal_digit seat small)

pub behind_same : (front bytes : List ℕ) → behind front (front ++ bytes) ≡ Some bytes
behind_same [] bytes = refl
behind_same (x ∷ front) bytes =
    ap (λ (b : Bool). if b then behind front (front ++ bytes) else None) (eq-eqb x x refl) ∙ behind_same front bytes

-- a line that begins with another byte than the mark
pub behind_first : (seat b : ℕ) (bytes : List ℕ) → seat < 10 → b ≢ 48 + seat →
    behind (seat_mark seat) (b ∷ bytes) ≡ None
behind_first seat b bytes small other =
    ap (λ (m : List ℕ). behind m (b ∷ bytes)) (mark_is seat small)
    ∙ ap (λ (t : Bool). if t then behind (32 ∷ []) bytes else None) (ne_eqb b (48 + seat) other)

pub behind_other : (seat number : ℕ) (bytes : List ℕ) → seat < 10 → number < 10 → number ≢ seat
    → behind (seat_mark seat) (seat_mark number ++ bytes) ≡ None
behind_other seat number bytes small few other =
    ap (λ (m : List ℕ). behind (seat_mark seat) (m ++ bytes)) (mark_is number few)
    ∙ behind_first seat (48 + number) (32 ∷ bytes) small (λ e. other (omega (arith, e)))

-- ---- numbers have no line feed

pub feed_before : (b : ℕ) (line : List ℕ) → b ≢ 10 → LacksFeed line → LacksFeed (b ∷ line)
feed_before b line other lack = All-cons (λ x. x ≢ 10) b line other lack

pub no_feed_none : LacksFeed []
no_feed_none = All-nil (λ x. x ≢ 10)

pub no_feed_both : (a b : List ℕ) → LacksFeed a → LacksFeed b → LacksFeed (a ++ b)
no_feed_both a b h k = All-append (λ x. x ≢ 10) a b h k

-- by a test that computes
pub lacks_feed : (w : List ℕ) → lacks 10 w ≡ true → LacksFeed w
lacks_feed [] h = no_feed_none
lacks_feed (x ∷ w) h =
    let (first, others) = and_parts (not (eqb x 10)) (lacks 10 w) h in
    feed_before x w (λ e. let same : eqb x 10 ≡ true = rw e refl in cc) (lacks_feed w others)

glyph_other : (d : ℕ) → digit_glyph false d ≢ 10
glyph_other d = by (nat_lt d 10)
  where
    by : (b : Bool) → (if b then 48 + d else 87 + d) ≢ 10
    by true e = omega (arith, e)
    by false e = omega (arith, e)

onto_lacks : (k n : ℕ) (more : List ℕ) → LacksFeed more → LacksFeed (digits_onto k 10 false n more)
onto_lacks zero n more lack = lack
onto_lacks (suc k) n more lack =
    let next : LacksFeed (digit_glyph false (n % 10) ∷ more) =
    feed_before (digit_glyph false (n % 10)) more (glyph_other (n % 10)) lack in
    by (eqb (n / 10) 0) next (onto_lacks k (n / 10) (digit_glyph false (n % 10) ∷ more) next)
  where
    by : (b : Bool) → LacksFeed (digit_glyph false (n % 10) ∷ more)
        → LacksFeed (digits_onto k 10 false (n / 10) (digit_glyph false (n % 10) ∷ more))
        → LacksFeed (if b then digit_glyph false (n % 10) ∷ more
        else digits_onto k 10 false (n / 10) (digit_glyph false (n % 10) ∷ more))
    by true here there = here
    by false here there = there

pub decimal_lacks_feed : (n : ℕ) → LacksFeed (decimal n)
unfolding digits
decimal_lacks_feed n = onto_lacks 64 n [] no_feed_none

mark_lacks : (seat : ℕ) → LacksFeed (seat_mark seat)
mark_lacks seat =
    no_feed_both (decimal seat) (32 ∷ []) (decimal_lacks_feed seat)
    (feed_before 32 [] (λ e. omega (arith, e)) no_feed_none)

-- ---- lines with the mark before them

abbrev pub marked_lines : ℕ → List (List ℕ) → List (List ℕ)
marked_lines seat lines = map (λ line. seat_mark seat ++ line) lines

marked_lack : (seat : ℕ) (lines : List (List ℕ)) → LackFeeds lines → LackFeeds (marked_lines seat lines)
marked_lack seat [] lack = tt
marked_lack seat (line ∷ lines) lack =
    (no_feed_both (seat_mark seat) line (mark_lacks seat) lack.0, marked_lack seat lines lack.1)

lines_marked : (seat : ℕ) (lines : List (List ℕ)) → LackFeeds lines →
    seat_lines seat (bytes_of lines) ≡ bytes_of (marked_lines seat lines)
lines_marked seat [] lack = refl
lines_marked seat (line ∷ lines) lack =
    line_marked seat line (bytes_of lines) (λ i below. lack.0 i 0 below)
    ∙ ap (λ (t : List ℕ). seat_mark seat ++ (line ++ 10 ∷ t)) (lines_marked seat lines lack.1)
    ∙ sym (append_assoc (seat_mark seat) line (10 ∷ bytes_of (marked_lines seat lines)))

told_same_lines : (seat : ℕ) (lines : List (List ℕ)) → told_lines seat (marked_lines seat lines) ≡ lines
told_same_lines seat [] = refl
told_same_lines seat (line ∷ lines) =
    ap (λ (o : Option (List ℕ)). with_line o (told_lines seat (marked_lines seat lines)))
    (behind_same (seat_mark seat) line)
    ∙ ap (λ (l : List (List ℕ)). line ∷ l) (told_same_lines seat lines)

told_other_lines : (seat number : ℕ) (lines : List (List ℕ)) → seat < 10 → number < 10 → number ≢ seat
    → told_lines seat (marked_lines number lines) ≡ []
told_other_lines seat number [] small few other = refl
told_other_lines seat number (line ∷ lines) small few other =
    ap (λ (o : Option (List ℕ)). with_line o (told_lines seat (marked_lines number lines)))
    (behind_other seat number line small few other)
    ∙ told_other_lines seat number lines small few other

pub marked_whole : (number : ℕ) (text : List ℕ) → IsWhole text → IsWhole (seat_lines number text)
marked_whole number text h = record {
  lines = marked_lines number h.lines;
  is = ap (seat_lines number) h.is ∙ lines_marked number h.lines h.lack;
  lack = marked_lack number h.lines h.lack;
}

told_marked : (seat number : ℕ) (text : List ℕ) → (h : IsWhole text)
    → told_to seat (seat_lines number text) ≡ bytes_of (told_lines seat (marked_lines number h.lines))
told_marked seat number text h =
    ap (told_to seat) (ap (seat_lines number) h.is ∙ lines_marked number h.lines h.lack)
    ∙ told_of seat (marked_lines number h.lines) (marked_lack number h.lines h.lack)

-- the seat is told its own lines
pub told_same : (seat : ℕ) (text : List ℕ) → IsWhole text → told_to seat (seat_lines seat text) ≡ text
told_same seat text h = told_marked seat seat text h ∙ ap bytes_of (told_same_lines seat h.lines) ∙ sym h.is

-- and nothing of another's
pub told_other : (seat number : ℕ) (text : List ℕ) → seat < 10 → number < 10 → number ≢ seat → IsWhole text
    → told_to seat (seat_lines number text) ≡ []
told_other seat number text small few other h =
    told_marked seat number text h ∙ ap bytes_of (told_other_lines seat number h.lines small few other)

-- ---- one line of words and a number

pub one_whole : (line : List ℕ) → LacksFeed line → IsWhole (line ++ 10 ∷ [])
one_whole line lack = record { lines = line ∷ []; is = refl; lack = (lack, tt) }

one_marked : (seat : ℕ) (line : List ℕ) → LacksFeed line →
    seat_mark seat ++ (line ++ 10 ∷ []) ≡ seat_lines seat (line ++ 10 ∷ [])
one_marked seat line lack = sym (line_marked seat line [] (λ i below. lack i 0 below))

end_lacks : (n : ℕ) → LacksFeed (codes "end " ++ decimal n)
end_lacks n = no_feed_both (codes "end ") (decimal n) (lacks_feed (codes "end ") refl) (decimal_lacks_feed n)

pub end_whole : (n : ℕ) → IsWhole (end_line n)
end_whole n = one_whole (codes "end " ++ decimal n) (end_lacks n)

pub end_marked : (seat n : ℕ) → seat_end_line seat n ≡ seat_lines seat (end_line n)
end_marked seat n = one_marked seat (codes "end " ++ decimal n) (end_lacks n)

full_lacks : (n : ℕ) → LacksFeed (codes "journal full " ++ decimal n)
full_lacks n =
    no_feed_both (codes "journal full ") (decimal n) (lacks_feed (codes "journal full ") refl) (decimal_lacks_feed n)

pub full_whole : (n : ℕ) → IsWhole (full_line n)
full_whole n = one_whole (codes "journal full " ++ decimal n) (full_lacks n)

pub full_marked : (seat n : ℕ) → seat_full_line seat n ≡ seat_lines seat (full_line n)
full_marked seat n = one_marked seat (codes "journal full " ++ decimal n) (full_lacks n)
