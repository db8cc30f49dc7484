-- What a pass's calls made, and what it has seen
use Rattle.std.specs.Prelude.{◌≡◌, List, Some}
use Rattle.relay_model.specs.declared.act.EndCause.{EndCause}
use Rattle.broker_steps.specs.declared.limits.Limits.{Limits}
use Rattle.broker_model.specs.declared.journal.Entry.{Entry}
use Rattle.broker_model.specs.declared.journal.Kept.{Kept}
use Rattle.broker_core.specs.Broker.{full_in}
use Rattle.broker_core.specs.Stands.{end_of}
use Rattle.hub_lock.specs.Histories.{History}
use Rattle.hub_lock.specs.Passes.{PeerPass}
pub use Rattle.hub_lock.specs.Seen.{entries_by, journal_of, SawMore}

-- the journal of what the pass of a peer has seen
abbrev pub journal_by : Limits → PeerPass → List Entry
journal_by limits p = journal_of limits p.seat.seen

-- what the pass has seen has the end of its peer, for this cause
abbrev pub HasEnded : Limits → PeerPass → EndCause → Type 0
HasEnded limits p cause = end_of (journal_by limits p) p.peer ≡ Some cause

-- the journal is full for the entry, and holds so much
abbrev pub IsFullFor : Limits → History → Entry → Kept → Type 0
IsFullFor limits h e kept = full_in limits (journal_of limits h) e ≡ Some kept
