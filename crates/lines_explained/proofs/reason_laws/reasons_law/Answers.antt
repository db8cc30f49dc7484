use Rattle.lines_explained.proofs.OutcomesGiven.{reasons_given, queued_relayed, no_room_given}
use Rattle.lines_explained.proofs.OwnGroupPut.{put_is_own, said_is_queued}
use Rattle.lines_explained.proofs.reason_laws.reasons_law.Goals as goal

pub returns-clause-reasons : goal.returns-clause-reasons
returns-clause-reasons c = reasons_given

pub returns-clause-relayed : goal.returns-clause-relayed
returns-clause-relayed c = queued_relayed

pub returns-clause-no_room : goal.returns-clause-no_room
returns-clause-no_room c = no_room_given

pub returns-clause-own : goal.returns-clause-own
returns-clause-own c = put_is_own

pub returns-clause-queued : goal.returns-clause-queued
returns-clause-queued c = said_is_queued
