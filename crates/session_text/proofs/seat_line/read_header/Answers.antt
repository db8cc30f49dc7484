use Rattle.session_text.proofs.SeatLines.{header_valid}
use Rattle.session_text.proofs.seat_line.read_header.Goals as goal

pub returns-in_ok-store-in-len4-clause-valid : goal.returns-in_ok-store-in-len4-clause-valid
returns-in_ok-store-in-len4-clause-valid c =
    header_valid _ _ _ c.in_ok-seats-in-len4.seats c.in_ok-entries-in-len4.entries c.in_ok-store-in-len4.store
    c.in_ok-seats-in-len4.ensures c.in_ok-entries-in-len4.ensures c.in_ok-store-in-len4.ensures
