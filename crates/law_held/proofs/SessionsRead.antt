-- What a session's journal puts for a peer is read as what it tells the peer.
use Rattle.std.proofs.Common.{◌≡◌, ℕ, ◌^◌, ◌<◌, List, length, sym, subst}
use Rattle.broker_model.specs.declared.journal.Entry.{Entry}
use Rattle.broker_model.specs.Settle.{history, outer}
use Rattle.seat_set.specs.Laws.{lines_played, unplayed}
use Rattle.seat_set.proofs.SessionHistory.{session_law}
use Rattle.program_run.specs.Replayed.{session_lines}
use Rattle.program_run.specs.Session.{first_stage}
use Rattle.broker_telling.specs.Sayable.{AreHeld}
use Rattle.broker_telling.specs.Streams.{IsReadStream}
use Rattle.broker_telling.proofs.StreamsRead.{streams_read}
use Rattle.law_held.specs.Held.{IsHeldJournal, SessionsAreRead}
use Rattle.law_held.proofs.SessionsHeld.{sessions_are_held}

pub sessions_are_read : SessionsAreRead
sessions_are_read opening first more p e =
    let journal : List Entry =
    (lines_played opening.limits (session_lines (first_stage opening.form) more) unplayed).play.journal in
    let capacity : ℕ = opening.limits.store in
    let held : IsHeldJournal journal = sessions_are_held opening first more e in
    let is : history capacity (outer journal) ≡ journal =
    session_law opening.limits (session_lines (first_stage opening.form) more) in
    subst (λ (j : List Entry). IsReadStream capacity j p) is
    (streams_read capacity (outer journal) p (subst AreHeld (sym is) held.held)
    (subst (λ (j : List Entry). length j < 2 ^ 32) (sym is) held.few))
