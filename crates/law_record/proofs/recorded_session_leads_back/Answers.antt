use Rattle.law_record.proofs.LinesLead.{recorded_leads_back}
use Rattle.law_record.proofs.recorded_session_leads_back.Goals as goal

pub returns : goal.returns
returns c = record { law = recorded_leads_back }
