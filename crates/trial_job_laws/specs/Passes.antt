-- The passes of a peer in the one history of a hub, and its steps in the journal
use Rattle.std.specs.Prelude.{◌≡◌, ◌⊎◌, ℕ, List, Some}
use Rattle.relay_model.specs.declared.act.EndCause.{EndCause}
use Rattle.broker_model.specs.declared.journal.Entry.{Entry}
use Rattle.broker_core.specs.Stands.{end_of}
use Rattle.client_side.specs.Messages.{Sent}
use Rattle.turn_lock.specs.Pairs.{HasSeen}
use Rattle.hub_lock.specs.Histories.{History, reader_of, writer_of}
use Rattle.hub_lock.specs.Passes.{PeerPass}
use Rattle.trial_laws.specs.RelayedBatches.{IsFrontOf}
use Rattle.trial_laws.specs.TypedLogs.{steps_by, steps_of}

-- They are the passes of the peer q. What each has seen is a front of the history, in which no
-- later step is the pass's.
pub record ArePassesOf (h : History) (q : ℕ) (reader writer : PeerPass) : Type 0 where
  pub reads_for : reader.peer ≡ q
  pub writes_for : writer.peer ≡ q
  pub reads : reader_of h q ≡ Some reader.seat.number
  pub writes : writer_of h q ≡ Some writer.seat.number
  pub reader_seen : HasSeen h reader.seat.number reader.seat.seen
  pub writer_seen : HasSeen h writer.seat.number writer.seat.seen

-- the journal has the peer's end
abbrev pub HasEndIn : List Entry → ℕ → Type 0
HasEndIn journal q = (cause : EndCause) × (end_of journal q ≡ Some cause)

-- the peer's steps in the journal are these requests, in order and no others, or the first of them
-- where it ended
abbrev pub HasSentIn : List Entry → ℕ → List Sent → Type 0
HasSentIn journal q sents =
    (steps_by journal q ≡ steps_of q sents)
    ⊎ (IsFrontOf (steps_by journal q) (steps_of q sents) × HasEndIn journal q)
