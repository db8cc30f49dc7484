use Rattle.std.proofs.Common.{◌≡◌, ◌+◌, ◌/◌, ◌%◌, ◌∙◌, ap, sym, arith}
use Rattle.std.specs.List.{slice_get}
use Rattle.std.proofs.lemmas.Result.{IfOk-weaker}
use Rattle.session_gen.specs.Setup.{method_steps}
use Rattle.session_gen.proofs.SetupPlaces.{app_place, method_place}
use Rattle.session_gen.proofs.setup.setup_step.Goals as goal

pub returns-then-peer-le-APPS-clause-step : goal.returns-then-peer-le-APPS-clause-step
returns-then-peer-le-APPS-clause-step c =
    let place = c.args.place in
    IfOk-weaker c.app_step.result _ _
    (λ step is.
    app_place (place / 7) place (place % 7) (omega (arith, c.if-peer-le-APPS.true)) (omega arith) (omega arith) ∙ is)
    c.app_step.ensures.step

pub returns-else-peer-le-APPS-clause-step : goal.returns-else-peer-le-APPS-clause-step
returns-else-peer-le-APPS-clause-step c =
    let place = c.args.place in
    let fifth : 1 + place / 7 ≡ 5 = omega (arith, c.requires, c.if-peer-le-APPS.false) in
    IfOk-weaker c.method_step.result _ _
    (λ step is. method_place place (place % 7) (omega (arith, c.requires, c.if-peer-le-APPS.false))
    ∙ ap (λ p. slice_get (method_steps p) (place % 7)) (sym fifth) ∙ is)
    c.method_step.ensures.step
