use Rattle.law_record.proofs.HubReplays.{hub_replays, hub_is_read, hub_leads_back}
use Rattle.law_record.proofs.hub_session_replays.Goals as goal

pub returns-clause-law : goal.returns-clause-law
returns-clause-law c = hub_replays

pub returns-clause-read : goal.returns-clause-read
returns-clause-read c = hub_is_read

pub returns-clause-leads : goal.returns-clause-leads
returns-clause-leads c = hub_leads_back
