-- The lines of an input of several seats: what their bytes read as.
use Rattle.std.specs.Prelude.{◌≡◌, ℕ, ◌+◌, ◌-◌, ◌==◌, ◌≤◌, ◌&&◌, nat_le, if◌then◌else◌, List, [], ◌∷◌, length, codes, Option, Some, None}
use Rattle.std.specs.List.{slice_split}
use Rattle.std.specs.Str.{bytes_eq}
use Rattle.broker_steps.specs.Ranges.{form_1_entry_limit, form_1_weight, store_limit, IsLimits, IsWithin}
use Rattle.session_text.specs.declared.line.Form.TheVariants.{Session}
use Rattle.session_text.specs.declared.line.Line.{Line}
use Rattle.session_text.specs.declared.line.Line.TheVariants as lines
use Rattle.session_text.specs.declared.line.SessionLine.TheVariants as sessions
use Rattle.session_text.specs.declared.seat_line.Address.{Address}
use Rattle.session_text.specs.declared.seat_line.Address.TheVariants as address
use Rattle.session_text.specs.declared.seat_line.SeatLine.{SeatLine}
use Rattle.session_text.specs.declared.seat_line.SeatLine.TheVariants as seats
use Rattle.session_text.specs.declared.seat_line.SeatsHeader.{SeatsHeader}
use Rattle.session_text.specs.declared.seat_line.SeatsLine.{SeatsLine}
use Rattle.session_text.specs.declared.seat_line.SeatsLine.TheVariants as said
use Rattle.session_text.specs.Words.{◌>>=◌, count_of}
use Rattle.session_text.specs.Reading.{line_of, line_limit}
use Rattle.session_text.specs.Steps.{IsSessionLine}

-- the most seats
abbrev pub seat_limit : ℕ
seat_limit = 8

-- the header by its words: `seats`, how many seats there are, and the limits of each
unfoldable pub header_of_words : List (List ℕ) → Option SeatsHeader
header_of_words (k ∷ n ∷ a ∷ b ∷ []) =
    if bytes_eq k (codes "seats") then
    count_of seat_limit n >>=
    (λ count. count_of form_1_entry_limit a >>= (λ entries. count_of store_limit b >>= (λ store.
    Some (record {
      count = count;
      limits = record { entries = entries; store = store; weight = form_1_weight };
    }))))
    else None
header_of_words _ = None

-- the header that the bytes are, of which there are no more than the limit
unfoldable pub seats_header_of : List ℕ → Option SeatsHeader
seats_header_of bytes =
    if nat_le (length bytes) line_limit then header_of_words (slice_split (λ b. b == 32) bytes)
    else None

-- there are from one to eight seats, and the limits are in their ranges
abbrev pub IsSeatsHeader : SeatsHeader → Type 0
IsSeatsHeader header = IsWithin seat_limit header.count × IsLimits header.limits

-- what stands behind `all `
abbrev pub behind_all : List ℕ → Option (List ℕ)
behind_all (a ∷ b ∷ c ∷ d ∷ rest) =
    if a == 97 && b == 108 && c == 108 && d == 32 then Some rest else None
behind_all _ = None

-- the seat whose digit and a space the line begins with, where there are so many seats, and what
-- stands behind them
abbrev pub behind_seat : ℕ → List ℕ → Option (ℕ × List ℕ)
behind_seat count (digit ∷ space ∷ rest) =
    if space == 32 && nat_le 49 digit && nat_le digit (48 + count) then Some (digit - 48, rest)
    else None
behind_seat count _ = None

-- who the line is for, with the line of a session that it gives them
abbrev pub address_by : Option (List ℕ) → Option (ℕ × List ℕ) → Option (Address × List ℕ)
address_by (Some rest) other = Some (address.All, rest)
address_by None (Some found) = Some (address.One found.0, found.1)
address_by None None = None

abbrev pub address_of : ℕ → List ℕ → Option (Address × List ℕ)
address_of count line = address_by (behind_all line) (behind_seat count line)

-- a line of a session for a seat, or one of the shell for all
abbrev pub said_to : Address → Option Line → Option SeatsLine
said_to (address.One seat) (Some (lines.Session line)) = Some (said.Seat (seats.One seat line))
said_to address.All (Some (lines.Session (sessions.Shell step))) =
    Some (said.Seat (seats.All (sessions.Shell step)))
said_to _ _ = None

abbrev pub line_for : Address → List ℕ → Option SeatsLine
line_for who line = said_to who (line_of Session line)

abbrev pub line_found : Option (Address × List ℕ) → Option SeatsLine
line_found None = None
line_found (Some found) = line_for found.0 found.1

-- the line that the bytes are after the header, of which there are no more than the limit
unfoldable pub seats_line_of : ℕ → List ℕ → Option SeatsLine
seats_line_of count bytes =
    if nat_le (length bytes) line_limit
    then (if bytes_eq bytes (codes "end") then Some said.End
    else line_found (address_of count bytes))
    else None

-- the line is for a seat that there is, or for all, and holds only what a line of a session can
-- give
abbrev pub IsSeatLine : ℕ → SeatLine → Type 0
IsSeatLine count (seats.One seat line) = (1 ≤ seat) × (seat ≤ count) × IsSessionLine line
IsSeatLine count (seats.All line) = IsSessionLine line

abbrev pub IsSeatsLine : ℕ → SeatsLine → Type 0
IsSeatsLine count (said.Seat line) = IsSeatLine count line
IsSeatsLine count said.End = Unit {0}
