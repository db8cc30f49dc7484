-- What the lines of several seats hold.
use Rattle.std.proofs.Common.{◌≡◌, ℕ, ◌+◌, ◌-◌, ◌<◌, ◌≤◌, Bool, true, false, eqb, leb, List, [], ◌∷◌, length, Option, Some, None, Result, Ok, Err, refl, sym, ap, subst, ◌∙◌, lit<, arith, IfOk}
use Rattle.std.specs.Prelude.{◌&&◌, if◌then◌else◌}
use Rattle.std.specs.List.{slice_split}
use Rattle.broker_steps.specs.Ranges.{form_1_entry_limit, form_1_weight, store_limit}
use Rattle.std.proofs.lemmas.Bool.{and_parts, leb-true}
use Rattle.session_text.specs.declared.line.Form.TheVariants.{Session}
use Rattle.session_text.specs.declared.line.Line.{Line}
use Rattle.session_text.specs.declared.line.Line.TheVariants as lines
use Rattle.session_text.specs.declared.line.SessionLine.{SessionLine}
use Rattle.session_text.specs.declared.line.SessionLine.TheVariants as sessions
use Rattle.session_text.specs.declared.line.BadLine.{BadLine}
use Rattle.session_text.specs.declared.line.BadLine.TheVariants as bad
use Rattle.session_text.specs.declared.seat_line.Address.{Address}
use Rattle.session_text.specs.declared.seat_line.Address.TheVariants as address
use Rattle.session_text.specs.declared.seat_line.SeatLine.TheVariants as seats
use Rattle.session_text.specs.declared.seat_line.SeatsLine.{SeatsLine}
use Rattle.session_text.specs.declared.seat_line.SeatsLine.TheVariants as said
use Rattle.session_text.specs.declared.seat_line.SeatsHeader.{SeatsHeader}
use Rattle.session_text.specs.Reading.{line_of, Reads}
use Rattle.session_text.specs.SeatLines.{IsSeatsHeader, IsSeatsLine, address_by, address_of, behind_all, behind_seat, header_of_words, line_for, said_to, seat_limit, seats_header_of}
use Rattle.session_text.specs.Words.{count_of}
use Rattle.session_text.proofs.WordKinds.{counts}
use Rattle.session_text.proofs.SpelledSteps.{old_entry_counts, store_counts}
use Rattle.session_text.proofs.LinesHold.{line_asked}
use Rattle.session_text.proofs.LinesReadBack.{reads_only}

-- a header has four words
pub many_words : (words : List (List ℕ)) → 8 < length words → header_of_words words ≡ None
unfolding header_of_words
many_words [] h = absurd (omega (arith, h))
many_words (a ∷ []) h = absurd (omega (arith, h))
many_words (a ∷ b ∷ []) h = absurd (omega (arith, h))
many_words (a ∷ b ∷ c ∷ []) h = absurd (omega (arith, h))
many_words (a ∷ b ∷ c ∷ d ∷ []) h = absurd (omega (arith, h))
many_words (a ∷ b ∷ c ∷ d ∷ e ∷ words) h = refl

pub many_header : (line : List ℕ) → 8 < length (slice_split (λ b. eqb b 32) line) → seats_header_of line ≡ None
unfolding seats_header_of
many_header line h =
    elim (leb (length line) 8400) as
    (λ (b : Bool). (if b then header_of_words (slice_split (λ b. eqb b 32) line) else None) ≡ None) [
      | true ↦ many_words (slice_split (λ b. eqb b 32) line) h
      | false ↦ refl
    ]

-- the numbers of a header are in their ranges
pub header_valid : (n a b : List ℕ) (count entries store : ℕ) → count_of seat_limit n ≡ Some count
    → count_of form_1_entry_limit a ≡ Some entries → count_of store_limit b ≡ Some store
    → IsSeatsHeader
    (record { count = count; limits = record { entries = entries; store = store; weight = form_1_weight } })
header_valid n a b count entries store is1 is2 is3 =
    let g = (counts seat_limit (lit< tt)).sound n count is1 in
    let h = old_entry_counts.sound a entries is2 in
    let i = store_counts.sound b store is3 in
    (g.0, ((h.0.0, omega (arith, h.0.1)), i.0, (omega arith, omega arith)))

-- a seat that a line is for
abbrev pub IsThere : ℕ → Address → Type 0
IsThere count (address.One seat) = (1 ≤ seat) × (seat ≤ count)
IsThere count address.All = Unit {0}

seat_by : (count digit : ℕ) (rest : List ℕ) (b : Bool) (found : ℕ × List ℕ)
    → (b ≡ true → (49 ≤ digit) × (digit ≤ 48 + count))
    → (if b then Some (digit - 48, rest) else None) ≡ Some found → (1 ≤ found.0) × (found.0 ≤ count)
seat_by count digit rest true found within e =
    let is : digit - 48 ≡ found.0 = ap (λ (o : Option (ℕ × List ℕ)). pick o) e in
    let w = within refl in
    (omega (arith, is, w.0, w.1), omega (arith, is, w.0, w.1))
  where
    pick : Option (ℕ × List ℕ) → ℕ
    pick None = 0
    pick (Some p) = p.0
seat_by count digit rest false found within e = absurd (cc e)

digit_within : (count digit space : ℕ) → ((eqb space 32 && leb 49 digit) && leb digit (48 + count)) ≡ true
    → (49 ≤ digit) × (digit ≤ 48 + count)
digit_within count digit space e =
    let parts = and_parts (eqb space 32 && leb 49 digit) (leb digit (48 + count)) e in
    let front = and_parts (eqb space 32) (leb 49 digit) parts.0 in
    (leb-true 49 digit front.1, leb-true digit (48 + count) parts.1)

pub seat_within : (count : ℕ) (line : List ℕ) (found : ℕ × List ℕ) → behind_seat count line ≡ Some found
    → (1 ≤ found.0) × (found.0 ≤ count)
seat_within count [] found e = absurd (cc e)
seat_within count (a ∷ []) found e = absurd (cc e)
seat_within count (digit ∷ space ∷ rest) found e =
    seat_by count digit rest ((eqb space 32 && leb 49 digit) && leb digit (48 + count)) found
    (digit_within count digit space) e

there_by : (count : ℕ) (all : Option (List ℕ)) (one : Option (ℕ × List ℕ)) (found : Address × List ℕ)
    → ((seat : ℕ × List ℕ) → one ≡ Some seat → (1 ≤ seat.0) × (seat.0 ≤ count))
    → address_by all one ≡ Some found → IsThere count found.0
there_by count (Some rest) one found within e = subst (λ (o : Option (Address × List ℕ)). IsThereIn o) e tt
  where
    IsThereIn : Option (Address × List ℕ) → Type 0
    IsThereIn None = Unit {0}
    IsThereIn (Some f) = IsThere count f.0
there_by count None (Some seat) found within e =
    subst (λ (o : Option (Address × List ℕ)). IsThereIn o) e (within seat refl)
  where
    IsThereIn : Option (Address × List ℕ) → Type 0
    IsThereIn None = Unit {0}
    IsThereIn (Some f) = IsThere count f.0
there_by count None None found within e = absurd (cc e)

-- a line is for a seat that there is
pub is_there : (count : ℕ) (line : List ℕ) (found : Address × List ℕ) → address_of count line ≡ Some found →
    IsThere count found.0
is_there count line found e = there_by count (behind_all line) (behind_seat count line) found (seat_within count line) e

-- what is said to a seat that there is, or to all
said_by : (count : ℕ) (who : Address) (bytes : List ℕ) (o : Option Line) → line_of Session bytes ≡ o → IsThere count who
    → (x : SeatsLine) → said_to who o ≡ Some x → IsSeatsLine count x
said_by count (address.One seat) bytes (Some (lines.Session line)) is there x e =
    let valid = line_asked line (reads_only Session bytes (lines.Session line) is).1 in
    let same : said.Seat (seats.One seat line) ≡ x = cc e in
    subst (IsSeatsLine count) same (there.0, there.1, valid)
said_by count address.All bytes (Some (lines.Session (sessions.Shell step))) is there x e =
    let valid = line_asked (sessions.Shell step)
    (reads_only Session bytes (lines.Session (sessions.Shell step)) is).1 in
    let same : said.Seat (seats.All (sessions.Shell step)) ≡ x = cc e in
    subst (IsSeatsLine count) same valid
said_by count address.All bytes (Some (lines.Session (sessions.Join role))) is there x e = absurd (cc e)
said_by count address.All bytes (Some (lines.Session (sessions.Bytes p piece))) is there x e = absurd (cc e)
said_by count address.All bytes (Some (lines.Session (sessions.Gone p))) is there x e = absurd (cc e)
said_by count address.All bytes (Some (lines.Session (sessions.Take p n))) is there x e = absurd (cc e)
said_by count address.All bytes (Some (lines.Session (sessions.Tokens p tokens))) is there x e = absurd (cc e)
said_by count who bytes None is there x e = absurd (none who e)
  where
    none : (who : Address) → said_to who None ≡ Some x → ⊥
    none (address.One seat) e = cc e
    none address.All e = cc e
said_by count (address.One seat) bytes (Some (lines.Header limits)) is there x e = absurd (cc e)
said_by count (address.One seat) bytes (Some (lines.Act act)) is there x e = absurd (cc e)
said_by count (address.One seat) bytes (Some (lines.Stamped stamp line)) is there x e = absurd (cc e)
said_by count (address.One seat) bytes (Some (lines.Shell step)) is there x e = absurd (cc e)
said_by count (address.One seat) bytes (Some lines.End) is there x e = absurd (cc e)
said_by count address.All bytes (Some (lines.Header limits)) is there x e = absurd (cc e)
said_by count address.All bytes (Some (lines.Act act)) is there x e = absurd (cc e)
said_by count address.All bytes (Some (lines.Stamped stamp line)) is there x e = absurd (cc e)
said_by count address.All bytes (Some (lines.Shell step)) is there x e = absurd (cc e)
said_by count address.All bytes (Some lines.End) is there x e = absurd (cc e)

-- what is read of a line is said to a seat that there is, or to all
pub read_valid : (count : ℕ) (line : List ℕ) (found : Address × List ℕ) (r : Result SeatsLine BadLine)
    → address_of count line ≡ Some found → Reads r (line_for found.0 found.1) → IfOk r (IsSeatsLine count)
read_valid count line found (Ok x) e read =
    said_by count found.0 found.1 (line_of Session found.1) refl (is_there count line found e) x read
read_valid count line found (Err why) e read = tt
