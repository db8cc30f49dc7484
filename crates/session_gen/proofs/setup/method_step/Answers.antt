use Rattle.std.proofs.Common.{Some, ◌∙◌, ap, sym}
use Rattle.std.proofs.lemmas.Result.{IfOk-weaker}
use Rattle.relay_model.specs.declared.role.Role.TheVariants.{Method}
use Rattle.broker_steps.specs.declared.step.Step.TheVariants.{Join}
use Rattle.session_gen.specs.Setup.{method_messages}
use Rattle.session_gen.proofs.SetupPlaces.{behind_the_join}
use Rattle.session_gen.proofs.setup.method_step.Goals as goal

pub returns-clause-step : goal.returns-clause-step
returns-clause-step c =
    IfOk-weaker c.request_step.result _ _
    (λ step is.
    behind_the_join (Join Method) c.args.peer c.args.place method_messages _
    c.if-place-eq0.false c.method_message-object.ensures.message
    ∙ ap Some (sym is))
    c.request_step.ensures.value
