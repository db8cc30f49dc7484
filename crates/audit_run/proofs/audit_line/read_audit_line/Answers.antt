use Rattle.audit_run.proofs.LinesAsked.{sent_asked, step_asked}
use Rattle.audit_run.proofs.audit_line.read_audit_line.Goals as goal

pub returns-in-Some-clause-valid : goal.returns-in-Some-clause-valid
returns-in-Some-clause-valid c = sent_asked c.in-Some.rest.now c.read_sent.result c.read_sent.ensures

pub returns-in-None-clause-valid : goal.returns-in-None-clause-valid
returns-in-None-clause-valid c = step_asked c.args.line.now c.read_step.result c.read_step.ensures
