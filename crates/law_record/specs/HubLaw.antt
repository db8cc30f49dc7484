-- The laws of the recorded session of a hub: it is read, and replays to its journal.
use Rattle.broker_steps.specs.declared.limits.Limits.{Limits}
use Rattle.hub_lock.specs.Histories.{History, broker_of}
use Rattle.hub_lock.specs.Lawful.{IsLawful}
use Rattle.serve_record.specs.Recorded.{recorded}
use Rattle.law_record.specs.RecordedLines.{lines_in, IsReadAs}
use Rattle.law_record.specs.RecordLaws.{LeadsBack, ReplaysTo}

-- the recorded session of each lawful history replays to its journal
abbrev pub HubReplays : Type 0
HubReplays =
    (limits : Limits) (h : History) → IsLawful limits h →
    let b = broker_of limits h in
    ReplaysTo limits (recorded limits b.journal b.stamps) b.journal

-- it is read as the lines of the journal's steps, each with its entry's stamp
abbrev pub HubIsRead : Type 0
HubIsRead =
    (limits : Limits) (h : History) → IsLawful limits h →
    let b = broker_of limits h in
    IsReadAs limits (recorded limits b.journal b.stamps) (lines_in b.journal b.stamps)

-- these lines lead to the journal again, and the stamps before them to its stamps
abbrev pub HubLeadsBack : Type 0
HubLeadsBack =
    (limits : Limits) (h : History) → IsLawful limits h →
    let b = broker_of limits h in LeadsBack limits b.journal b.stamps
