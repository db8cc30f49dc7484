use Rattle.std.proofs.Common.{◌∷◌, ap, ◌∙◌}
use Rattle.client_side.specs.MethodLog.{came}
use Rattle.trial_client_logs.specs.MethodLogs.{method_log}
use Rattle.trial_client_logs.specs.declared.method_log.MethodEntry.TheVariants as entries
use Rattle.trial_client_logs.proofs.MethodsWritten.{pushed}
use Rattle.trial_client_logs.proofs.method_hearing.MethodHearing.write_down.Goals as goal

pub returns-in-Ok : goal.returns-in-Ok
returns-in-Ok c =
    let p = pushed c.args.self.now.log c.push.new.self (entries.Event c.in-Ok.event) c.push.result
    c.args.self.now.lacks c.is_err-self.result c.if-self.false c.is_err-self.ensures.value c.push.ensures.ok
    c.push.ensures.err in (
      λ e. ((p.0 e).0, (p.0 e).1 ∙ ap (λ event. came event ∷ method_log c.args.self.now.log) c.in-Ok.ensures),
      p.1,
    )
