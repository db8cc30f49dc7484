-- What the calls of a loop made of its pass
use Rattle.std.specs.Prelude.{◌≡◌, ◌⊎◌, ◌+◌, ◌≤◌, ◌<◌, List, ◌++◌, Some}
use Rattle.broker_steps.specs.declared.limits.Limits.{Limits}
use Rattle.broker_model.specs.declared.journal.Entry.{Entry}
use Rattle.broker_model.specs.declared.journal.Kept.{Kept}
use Rattle.broker_model.specs.Limits.{number_counted, weight}
use Rattle.broker_core.specs.Broker.{full_in}
use Rattle.hub_lock.specs.Histories.{History}
pub use Rattle.hub_lock.specs.Seen.{entries_by, journal_of, SawMore}

-- the journal is at its limit of entries, or its weight and that of the heaviest step pass the
-- limit
abbrev pub IsAtLimit : Limits → List Entry → Type 0
IsAtLimit limits journal =
    (limits.entries ≤ number_counted journal) ⊎ (limits.weight < weight journal + 4104)

-- a journal that was seen was full for the entry, and held so much; that of all that was seen is at
-- its limit
pub record HasSeenFull (limits : Limits) (seen : History) (e : Entry) (kept : Kept) : Type 0 where
  pub earlier : History
  pub later : History
  pub is : seen ≡ earlier ++ later
  pub full : full_in limits (journal_of limits earlier) e ≡ Some kept
  pub at_limit : IsAtLimit limits (journal_of limits seen)
