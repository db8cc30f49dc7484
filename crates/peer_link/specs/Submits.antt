-- What became of steps that a peer's reader submitted in order
use Rattle.std.specs.Prelude.{◌≡◌, ℕ, List, ◌∷◌, ◌++◌, Some, None, Result, Ok, Err}
use Rattle.relay_model.specs.declared.act.EndCause.TheVariants.{Bad}
use Rattle.broker_steps.specs.declared.limits.Limits.{Limits}
use Rattle.broker_steps.specs.declared.step.PeerStep.{PeerStep}
use Rattle.broker_steps.specs.declared.step.PeerStep.TheVariants as peers
use Rattle.wl_wire.specs.Messages.{bad_size_at, behind}
use Rattle.broker_model.specs.declared.journal.Entry.{Entry}
use Rattle.broker_core.specs.Broker.{full_in}
use Rattle.broker_core.specs.Stands.{end_of}
use Rattle.hub_lock.specs.Passes.{PeerPass}
use Rattle.peer_link.specs.declared.ends.ReadEnd.{ReadEnd}
use Rattle.peer_link.specs.declared.ends.ReadEnd.TheVariants as ends
use Rattle.peer_link.specs.declared.messages.Ahead.{Ahead}
use Rattle.peer_link.specs.declared.messages.Ahead.TheVariants as ahead
use Rattle.peer_link.specs.Made.{entries_by, journal_of, IsAtLimit}

-- why the step of an entry wasn't taken, by the journal that the pass has then seen
abbrev pub WhyNot : Limits → PeerPass → Entry → ReadEnd → Type 0
WhyNot limits p e (ends.Ended cause) = end_of (journal_of limits p.seat.seen) p.peer ≡ Some cause
WhyNot limits p e (ends.JournalFull kept) =
    (full_in limits (journal_of limits p.seat.seen) e ≡ Some kept)
    × IsAtLimit limits (journal_of limits p.seat.seen)
WhyNot limits p e ends.NoMemory = Unit {0}
WhyNot limits p e _ = ⊥

-- the first of the steps were made, and the next wasn't taken
pub record MadeFirst (limits : Limits) (before after : PeerPass) (steps : List Entry)
    (end : ReadEnd) : Type 0 where
  pub made : List Entry
  pub e : Entry
  pub more : List Entry
  pub steps_are : steps ≡ made ++ e ∷ more
  pub entries : entries_by after.seat ≡ entries_by before.seat ++ made
  pub why : WhyNot limits after e end

-- all were made, or the first of them
abbrev pub Submits : {T : Type 0} → Limits → PeerPass → PeerPass → List Entry → Result T ReadEnd →
    Type 0
Submits limits before after steps (Ok done) =
    entries_by after.seat ≡ entries_by before.seat ++ steps
Submits limits before after steps (Err end) = MadeFirst limits before after steps end

-- the peer has ended for a refused message
abbrev pub HasEndedBad : Limits → PeerPass → Type 0
HasEndedBad limits p = end_of (journal_of limits p.seat.seen) p.peer ≡ Some Bad

-- so it is, if the step was a header with a bad size
abbrev pub EndedIfBad : Limits → PeerPass → PeerStep → Type 0
EndedIfBad limits p (peers.BadSize head) = HasEndedBad limits p
EndedIfBad limits p _ = Unit {0}

-- the end of a link isn't refused but because its peer had ended
abbrev pub IsGoneRefusal : ReadEnd → Type 0
IsGoneRefusal (ends.Ended cause) = Unit {0}
IsGoneRefusal _ = ⊥

abbrev pub IsRefusal : PeerStep → ReadEnd → Type 0
IsRefusal peers.Gone end = IsGoneRefusal end
IsRefusal _ end = Unit {0}

-- bytes wait for more, which stand behind the whole messages, or a bad size has ended the peer
abbrev pub LeavesOff : Limits → PeerPass → (bytes waiting : List ℕ) → Ahead → Type 0
LeavesOff limits p bytes waiting ahead.More =
    (waiting ≡ behind bytes) × (bad_size_at waiting ≡ None)
LeavesOff limits p bytes waiting ahead.Nothing = HasEndedBad limits p
