use Rattle.trial_client_logs.proofs.FieldsWritten.{pushed}
use Rattle.trial_client_logs.proofs.field_hearing.FieldHearing.write_down.Goals as goal

pub returns : goal.returns
returns c =
    pushed c.args.self.now.log c.push.new.self c.args.entry c.push.result c.args.self.now.lacks c.is_err-self.result
    c.if-self.false c.is_err-self.ensures.value c.push.ensures.ok c.push.ensures.err
