-- The line of several seats that bytes read as, and what they give one of the seats.
use Rattle.std.proofs.Common.{◌≡◌, ℕ, ◌+◌, ◌-◌, ◌<◌, ◌≤◌, Bool, true, false, eqb, leb, List, [], ◌∷◌, ◌++◌, length, Option, Some, None, refl, sym, ap, ap₂, subst, ◌∙◌, inl, inr, arith}
use Rattle.std.specs.Prelude.{◌&&◌, codes, if◌then◌else◌}
use Rattle.std.specs.Str.{bytes_eq}
use Rattle.std.proofs.lemmas.Bool.{and_parts, eqb-true, leb-true, ne_eqb}
use Rattle.std.proofs.lemmas.Bool.Decides.{eqb_tells}
use Rattle.session_text.specs.declared.line.Form.TheVariants.{Session}
use Rattle.session_text.specs.declared.line.Line.{Line}
use Rattle.session_text.specs.declared.line.Line.TheVariants as lines
use Rattle.session_text.specs.declared.line.SessionLine.{SessionLine}
use Rattle.session_text.specs.declared.line.SessionLine.TheVariants as sessions
use Rattle.session_text.specs.declared.seat_line.Address.{Address}
use Rattle.session_text.specs.declared.seat_line.Address.TheVariants as address
use Rattle.session_text.specs.declared.seat_line.SeatLine.{SeatLine}
use Rattle.session_text.specs.declared.seat_line.SeatLine.TheVariants as seats
use Rattle.session_text.specs.declared.seat_line.SeatsLine.{SeatsLine}
use Rattle.session_text.specs.declared.seat_line.SeatsLine.TheVariants as said
use Rattle.session_text.specs.Reading.{line_of}
use Rattle.session_text.specs.SeatLines.{address_by, address_of, behind_all, behind_seat, line_found, said_to, seats_line_of}
use Rattle.lines_transcript.specs.Seats.{seat_mark}
use Rattle.seat_set.specs.Seats.{is_for, line_in}
use Rattle.law_seats.specs.SeatTexts.{behind, either_line, gives}
use Rattle.law_seats.proofs.MarkedLines.{mark_is, behind_same, behind_first, behind_other}

-- the line is for the seat, and is what the bytes give it; or it is for others, and they give it nothing
abbrev pub IsGiven : Bool → ℕ → SeatLine → List ℕ → Type 0
IsGiven true seat line raw =
    (rest : List ℕ) × (gives seat raw ≡ Some rest) × (line_of Session rest ≡ Some (lines.Session (line_in line)))
IsGiven false seat line raw = gives seat raw ≡ None

-- ---- what stands before the line of a session

all_by : (a b c d : ℕ) (rest found : List ℕ) (t : Bool) → (((eqb a 97 && eqb b 108) && eqb c 108) && eqb d 32) ≡ t
    → (if t then Some rest else None) ≡ Some found → a ∷ b ∷ c ∷ d ∷ rest ≡ codes "all " ++ found
all_by a b c d rest found true test e =
    let (abc, is_d) = and_parts ((eqb a 97 && eqb b 108) && eqb c 108) (eqb d 32) test in
    let (ab, is_c) = and_parts (eqb a 97 && eqb b 108) (eqb c 108) abc in
    let (is_a, is_b) = and_parts (eqb a 97) (eqb b 108) ab in
    let a97 : a ≡ 97 = eqb-true a 97 is_a in
    let b108 : b ≡ 108 = eqb-true b 108 is_b in
    let c108 : c ≡ 108 = eqb-true c 108 is_c in
    let d32 : d ≡ 32 = eqb-true d 32 is_d in
    let same : rest ≡ found = cc e in
    cc
all_by a b c d rest found false test e = absurd (cc e)

all_is : (raw found : List ℕ) → behind_all raw ≡ Some found → raw ≡ codes "all " ++ found
all_is [] found e = absurd (cc e)
all_is (a ∷ []) found e = absurd (cc e)
all_is (a ∷ b ∷ []) found e = absurd (cc e)
all_is (a ∷ b ∷ c ∷ []) found e = absurd (cc e)
all_is (a ∷ b ∷ c ∷ d ∷ rest) found e =
    all_by a b c d rest found (((eqb a 97 && eqb b 108) && eqb c 108) && eqb d 32) refl e

-- a digit of a seat that there is, and a space
record IsNumbered (count : ℕ) (raw : List ℕ) (found : ℕ × List ℕ) : Type 0 where
  is : raw ≡ (48 + found.0) ∷ 32 ∷ found.1
  some : 1 ≤ found.0
  few : found.0 ≤ count

one_by : (count digit space : ℕ) (rest : List ℕ) (found : ℕ × List ℕ) (t : Bool)
    → ((eqb space 32 && leb 49 digit) && leb digit (48 + count)) ≡ t
    → (if t then Some (digit - 48, rest) else None) ≡ Some found → IsNumbered count (digit ∷ space ∷ rest) found
one_by count digit space rest found true test e =
    let (front, high) = and_parts (eqb space 32 && leb 49 digit) (leb digit (48 + count)) test in
    let (is_space, low) = and_parts (eqb space 32) (leb 49 digit) front in
    let same : (digit - 48, rest) ≡ found = cc e in
    let number : digit - 48 ≡ found.0 = ap (λ (p : ℕ × List ℕ). p.0) same in
    let from = leb-true 49 digit low in
    let to = leb-true digit (48 + count) high in
    let first : digit ≡ 48 + found.0 = omega (arith, number, from) in
    record {
      is = ap₂ (λ (a b : ℕ). a ∷ b ∷ rest) first (eqb-true space 32 is_space)
          ∙ ap (λ (p : ℕ × List ℕ). (48 + found.0) ∷ 32 ∷ p.1) same;
      some = omega (arith, number, from);
      few = omega (arith, number, from, to);
    }
one_by count digit space rest found false test e = absurd (cc e)

one_is : (count : ℕ) (raw : List ℕ) (found : ℕ × List ℕ) → behind_seat count raw ≡ Some found →
    IsNumbered count raw found
one_is count [] found e = absurd (cc e)
one_is count (a ∷ []) found e = absurd (cc e)
one_is count (digit ∷ space ∷ rest) found e =
    one_by count digit space rest found ((eqb space 32 && leb 49 digit) && leb digit (48 + count)) refl e

-- ---- by whom the line is for

-- what stands behind the seat's number, or behind `all`
abbrev stands_behind : ℕ → List ℕ → Option (List ℕ)
stands_behind seat raw = either_line (behind (seat_mark seat) raw) (behind (codes "all ") raw)

all_behind : (seat : ℕ) (raw rest : List ℕ) → seat < 10 → behind_all raw ≡ Some rest →
    stands_behind seat raw ≡ Some rest
all_behind seat raw rest small e =
    ap (stands_behind seat) (all_is raw rest e)
    ∙ ap₂ either_line (behind_first seat 97 (codes "ll " ++ rest) small (λ f. omega (arith, f, small)))
    (behind_same (codes "all ") rest)

one_behind : (seat count : ℕ) (raw : List ℕ) (found : ℕ × List ℕ) → seat < 10 → count ≤ 8 →
    behind_seat count raw ≡ Some found
    → stands_behind seat raw ≡ (if eqb found.0 seat then Some found.1 else None)
one_behind seat count raw found small few e =
    let n = one_is count raw found e in
    let within = n.few in
    let marked : raw ≡ seat_mark found.0 ++ found.1 =
    n.is ∙ ap (λ (m : List ℕ). m ++ found.1) (sym (mark_is found.0 (omega (arith, within, few)))) in
    elim (eqb_tells found.0 seat) [
      | inl same ↦
          ap₂ either_line
          (ap (behind (seat_mark seat)) marked
          ∙ ap (λ (k : ℕ). behind (seat_mark seat) (seat_mark k ++ found.1)) same.1
          ∙ behind_same (seat_mark seat) found.1) refl
          ∙ sym (ap (λ (b : Bool). if b then Some found.1 else None) same.0)
      | inr other ↦
          ap₂ either_line (ap (behind (seat_mark seat)) marked
          ∙ behind_other seat found.0 found.1 small (omega (arith, within, few)) other.1)
          (ap (behind (codes "all ")) n.is ∙ ap (λ (b : Bool). if b then behind (codes "ll ") (32 ∷ found.1) else None)
          (ne_eqb (48 + found.0) 97 (λ f. omega (arith, f, within, few))))
          ∙ sym (ap (λ (b : Bool). if b then Some found.1 else None) other.0)
    ]

-- the line that is said to them
record IsSaid (who : Address) (rest : List ℕ) (line : SeatLine) : Type 0 where
  reads : line_of Session rest ≡ Some (lines.Session (line_in line))
  all : who ≡ address.All → (seat : ℕ) → is_for line seat ≡ true
  one : (number : ℕ) → who ≡ address.One number → (seat : ℕ) → is_for line seat ≡ eqb number seat

said_one : (number : ℕ) (rest : List ℕ) (line : SeatLine) (found : SessionLine) →
    line_of Session rest ≡ Some (lines.Session found)
    → said.Seat (seats.One number found) ≡ said.Seat line → IsSaid (address.One number) rest line
said_one number rest line found is e =
    let same : seats.One number found ≡ line = cc e in
    subst (IsSaid (address.One number) rest) same (record {
      reads = is;
      all = λ f. absurd (cc f);
      one = λ other f seat. let n : number ≡ other = cc f in ap (λ (k : ℕ). eqb k seat) n;
    })

said_all : (rest : List ℕ) (line : SeatLine) (found : SessionLine) → line_of Session rest ≡ Some (lines.Session found)
    → said.Seat (seats.All found) ≡ said.Seat line → IsSaid address.All rest line
said_all rest line found is e =
    let same : seats.All found ≡ line = cc e in
    subst (IsSaid address.All rest) same (record { reads = is; all = λ f seat. refl; one = λ number f. absurd (cc f) })

some_line : (a b : SeatsLine) → Some a ≡ Some b → a ≡ b
some_line a b e = cc e

said_by : (who : Address) (rest : List ℕ) (line : SeatLine) (o : Option Line) → line_of Session rest ≡ o
    → said_to who o ≡ Some (said.Seat line) → IsSaid who rest line
said_by (address.One number) rest line (Some (lines.Session found)) is e =
    said_one number rest line found is (some_line _ _ e)
said_by address.All rest line (Some (lines.Session (sessions.Shell step))) is e =
    said_all rest line (sessions.Shell step) is (some_line _ _ e)
said_by address.All rest line (Some (lines.Session (sessions.Join role))) is e = absurd (cc e)
said_by address.All rest line (Some (lines.Session (sessions.Bytes p piece))) is e = absurd (cc e)
said_by address.All rest line (Some (lines.Session (sessions.Gone p))) is e = absurd (cc e)
said_by address.All rest line (Some (lines.Session (sessions.Take p n))) is e = absurd (cc e)
said_by address.All rest line (Some (lines.Session (sessions.Tokens p tokens))) is e = absurd (cc e)
said_by (address.One number) rest line None is e = absurd (cc e)
said_by address.All rest line None is e = absurd (cc e)
said_by (address.One number) rest line (Some (lines.Header limits)) is e = absurd (cc e)
said_by (address.One number) rest line (Some (lines.Act act)) is e = absurd (cc e)
said_by (address.One number) rest line (Some (lines.Stamped stamp found)) is e = absurd (cc e)
said_by (address.One number) rest line (Some (lines.Shell step)) is e = absurd (cc e)
said_by (address.One number) rest line (Some lines.End) is e = absurd (cc e)
said_by address.All rest line (Some (lines.Header limits)) is e = absurd (cc e)
said_by address.All rest line (Some (lines.Act act)) is e = absurd (cc e)
said_by address.All rest line (Some (lines.Stamped stamp found)) is e = absurd (cc e)
said_by address.All rest line (Some (lines.Shell step)) is e = absurd (cc e)
said_by address.All rest line (Some lines.End) is e = absurd (cc e)

-- nothing that is said to a seat is the end
no_end : (who : Address) (o : Option Line) → said_to who o ≡ Some said.End → ⊥
no_end (address.One number) (Some (lines.Session found)) e = cc e
no_end address.All (Some (lines.Session (sessions.Shell step))) e = cc e
no_end address.All (Some (lines.Session (sessions.Join role))) e = cc e
no_end address.All (Some (lines.Session (sessions.Bytes p piece))) e = cc e
no_end address.All (Some (lines.Session (sessions.Gone p))) e = cc e
no_end address.All (Some (lines.Session (sessions.Take p n))) e = cc e
no_end address.All (Some (lines.Session (sessions.Tokens p tokens))) e = cc e
no_end (address.One number) None e = cc e
no_end address.All None e = cc e
no_end (address.One number) (Some (lines.Header limits)) e = cc e
no_end (address.One number) (Some (lines.Act act)) e = cc e
no_end (address.One number) (Some (lines.Stamped stamp found)) e = cc e
no_end (address.One number) (Some (lines.Shell step)) e = cc e
no_end (address.One number) (Some lines.End) e = cc e
no_end address.All (Some (lines.Header limits)) e = cc e
no_end address.All (Some (lines.Act act)) e = cc e
no_end address.All (Some (lines.Stamped stamp found)) e = cc e
no_end address.All (Some (lines.Shell step)) e = cc e
no_end address.All (Some lines.End) e = cc e

-- ---- by the address

given_from : (t : Bool) (seat : ℕ) (line : SeatLine) (raw rest : List ℕ) → leb (length raw) 8400 ≡ true
    → line_of Session rest ≡ Some (lines.Session (line_in line)) →
    stands_behind seat raw ≡ (if t then Some rest else None)
    → IsGiven t seat line raw
given_from true seat line raw rest within reads is =
    (rest, ap (λ (b : Bool). if b then stands_behind seat raw else None) within ∙ is, reads)
given_from false seat line raw rest within reads is =
    ap (λ (b : Bool). if b then stands_behind seat raw else None) within ∙ is

found_all : (seat count : ℕ) (line : SeatLine) (raw rest : List ℕ) → seat < 10 → leb (length raw) 8400 ≡ true
    → behind_all raw ≡ Some rest → IsSaid address.All rest line → IsGiven (is_for line seat) seat line raw
found_all seat count line raw rest small within all s =
    subst (λ (t : Bool). IsGiven t seat line raw) (sym (s.all refl seat))
    (given_from true seat line raw rest within s.reads (all_behind seat raw rest small all))

found_one : (seat count : ℕ) (line : SeatLine) (raw : List ℕ) (found : ℕ × List ℕ) → seat < 10 → count ≤ 8 →
    leb (length raw) 8400 ≡ true
    → behind_seat count raw ≡ Some found → IsSaid (address.One found.0) found.1 line →
    IsGiven (is_for line seat) seat line raw
found_one seat count line raw found small few within one s =
    subst (λ (t : Bool). IsGiven t seat line raw) (sym (s.one found.0 refl seat))
    (given_from (eqb found.0 seat) seat line raw found.1 within s.reads (one_behind seat count raw found small few one))

found_by : (seat count : ℕ) (line : SeatLine) (raw : List ℕ) (all : Option (List ℕ)) (one : Option (ℕ × List ℕ)) →
    seat < 10 → count ≤ 8
    → leb (length raw) 8400 ≡ true → behind_all raw ≡ all → behind_seat count raw ≡ one
    → line_found (address_by all one) ≡ Some (said.Seat line) → IsGiven (is_for line seat) seat line raw
found_by seat count line raw (Some rest) one small few within is_all is_one e =
    found_all seat count line raw rest small within is_all (said_by address.All rest line (line_of Session rest) refl e)
found_by seat count line raw None (Some found) small few within is_all is_one e =
    found_one seat count line raw found small few within is_one
    (said_by (address.One found.0) found.1 line (line_of Session found.1) refl e)
found_by seat count line raw None None small few within is_all is_one e = absurd (cc e)

-- ---- by what it reads as

pub record IsLineFor (seat : ℕ) (line : SeatLine) (raw : List ℕ) : Type 0 where
  pub goes_on : bytes_eq raw (codes "end") ≡ false
  pub given : IsGiven (is_for line seat) seat line raw

line_by : (seat count : ℕ) (line : SeatLine) (raw : List ℕ) (within ends : Bool) → seat < 10 → count ≤ 8
    → leb (length raw) 8400 ≡ within → bytes_eq raw (codes "end") ≡ ends
    → (if within then (if ends then Some said.End else line_found (address_of count raw)) else None)
    ≡ Some (said.Seat line)
    → IsLineFor seat line raw
line_by seat count line raw true true small few w e is = absurd (cc is)
line_by seat count line raw true false small few w e is =
    record {
      goes_on = e;
      given = found_by seat count line raw (behind_all raw) (behind_seat count raw) small few w refl refl is;
    }
line_by seat count line raw false ends small few w e is = absurd (cc is)

pub line_for_seat : (seat count : ℕ) (line : SeatLine) (raw : List ℕ) → seat < 10 → count ≤ 8
    → seats_line_of count raw ≡ Some (said.Seat line) → IsLineFor seat line raw
unfolding seats_line_of
line_for_seat seat count line raw small few is =
    line_by seat count line raw (leb (length raw) 8400) (bytes_eq raw (codes "end")) small few refl refl is

no_end_found : (o : Option (Address × List ℕ)) → line_found o ≡ Some said.End → ⊥
no_end_found None e = cc e
no_end_found (Some found) e = no_end found.0 (line_of Session found.1) e

end_by : (count : ℕ) (raw : List ℕ) (within ends : Bool)
    → (if within then (if ends then Some said.End else line_found (address_of count raw)) else None) ≡ Some said.End
    → ends ≡ true
end_by count raw true true is = refl
end_by count raw true false is = absurd (no_end_found (address_of count raw) is)
end_by count raw false ends is = absurd (cc is)

pub line_ends : (count : ℕ) (raw : List ℕ) → seats_line_of count raw ≡ Some said.End → bytes_eq raw (codes "end") ≡ true
unfolding seats_line_of
line_ends count raw is = end_by count raw (leb (length raw) 8400) (bytes_eq raw (codes "end")) is
