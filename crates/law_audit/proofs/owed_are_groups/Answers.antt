use Rattle.law_audit.proofs.PutGroupsQueued.{groups_queued, groups_whole}
use Rattle.law_audit.proofs.GroupsHeard.{owed_groups}
use Rattle.law_audit.proofs.owed_are_groups.Goals as goal

pub returns : goal.returns
returns c = record { owed = owed_groups; whole = groups_whole; queued = groups_queued }
