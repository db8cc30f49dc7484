-- The line of a peer's bytes for one seat, by whom it is for and what it says.
use Rattle.std.proofs.Common.{◌≡◌, ℕ, ◌≤◌, Bool, true, false, List, length, codes, Some, None, refl, sym, ap, ◌∙◌}
use Rattle.std.specs.Prelude.{if◌then◌else◌}
use Rattle.std.specs.Str.{bytes_eq}
use Rattle.std.proofs.lemmas.Bool.{le-leb}
use Rattle.std.proofs.lemmas.Slice.Eq.{bytes_eq-Decides}
use Rattle.session_text.specs.declared.line.Form.TheVariants.{Session}
use Rattle.session_text.specs.declared.line.Line.TheVariants as line
use Rattle.session_text.specs.declared.line.SessionLine.{SessionLine}
use Rattle.session_text.specs.declared.seat_line.Address.{Address}
use Rattle.session_text.specs.declared.seat_line.Address.TheVariants as address
use Rattle.session_text.specs.declared.seat_line.SeatLine.TheVariants as seats
use Rattle.session_text.specs.declared.seat_line.SeatsLine.TheVariants as said
use Rattle.session_text.specs.Reading.{line_of}
use Rattle.session_text.specs.SeatLines.{address_of, line_found, said_to, seats_line_of}

-- `end` is for no seat
not_end : (count : ℕ) (raw : List ℕ) (found : Address × List ℕ) → address_of count raw ≡ Some found
    → (b : Bool) → bytes_eq raw (codes "end") ≡ b → b ≡ false
not_end count raw found e false is = refl
not_end count raw found e true is =
    let same : raw ≡ codes "end" = (bytes_eq-Decides raw (codes "end")).0 is in
    let none : address_of count raw ≡ None = ap (address_of count) same in
    absurd (cc (sym none ∙ e))

pub one_line : (count : ℕ) (raw rest : List ℕ) (seat : ℕ) (said_line : SessionLine) → length raw ≤ 8400
    → address_of count raw ≡ Some (address.One seat, rest) → line_of Session rest ≡ Some (line.Session said_line)
    → seats_line_of count raw ≡ Some (said.Seat (seats.One seat said_line))
unfolding seats_line_of
one_line count raw rest seat said_line short found is =
    let other = not_end count raw (address.One seat, rest) found (bytes_eq raw (codes "end")) refl in
    ap (λ (b : Bool). (if b
    then (if bytes_eq raw (codes "end") then Some said.End else line_found (address_of count raw))
    else None)) (le-leb (length raw) 8400 short)
    ∙ ap (λ (b : Bool). (if b then Some said.End else line_found (address_of count raw))) other
    ∙ ap line_found found
    ∙ ap (said_to (address.One seat)) is
