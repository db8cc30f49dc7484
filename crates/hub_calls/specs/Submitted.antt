-- What became of a peer's messages that its reader submitted in order
use Rattle.std.specs.Prelude.{◌≡◌, ℕ, List, ◌∷◌, ◌++◌, map, Result, Ok, Err}
use Rattle.broker_steps.specs.declared.limits.Limits.{Limits}
use Rattle.wl_wire.specs.Messages.{messages}
use Rattle.broker_model.specs.declared.journal.Entry.{Entry}
use Rattle.hub_lock.specs.Passes.{PeerPass}
use Rattle.hub_calls.specs.declared.stop.PassStop.{PassStop}
use Rattle.hub_calls.specs.declared.stop.PassStop.TheVariants as stops
use Rattle.hub_calls.specs.declared.submit.Sent.{Sent}
use Rattle.hub_calls.specs.declared.submit.Sent.TheVariants as sent
use Rattle.hub_calls.specs.Made.{entries_by, HasEnded, IsFullFor}
pub use Rattle.broker_model.specs.MessageEntries.{message_entry}

-- those of the whole messages that bytes begin with
abbrev pub entries_in : ℕ → List ℕ → List Entry
entries_in q bytes = map (message_entry q) (messages bytes)

-- the first of the entries were made, and the next wasn't, for this reason
pub record MadeFirst (before after : PeerPass) (all : List Entry)
    (Why : Entry → Type 0) : Type 0 where
  pub made : List Entry
  pub next : Entry
  pub left : List Entry
  pub all_are : all ≡ made ++ next ∷ left
  pub entries : entries_by after.seat ≡ entries_by before.seat ++ made
  pub why : Why next

-- All: each was made. Ended: the peer has that end. JournalFull: the journal is full for the next.
abbrev pub Submits : Limits → PeerPass → PeerPass → List Entry → Result Sent PassStop → Type 0
Submits limits before after all (Ok sent.All) =
    entries_by after.seat ≡ entries_by before.seat ++ all
Submits limits before after all (Ok (sent.Ended cause)) =
    MadeFirst before after all (λ next. HasEnded limits after cause)
Submits limits before after all (Err (stops.JournalFull kept)) =
    MadeFirst before after all (λ next. IsFullFor limits after.seat.seen next kept)
Submits limits before after all (Err stops.NoMemory) =
    MadeFirst before after all (λ next. Unit {0})
