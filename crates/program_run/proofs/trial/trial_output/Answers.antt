use Rattle.std.proofs.Common.{◌∙◌}
use Rattle.program_run.proofs.ScriptShown.{of_lines}
use Rattle.program_run.proofs.trial.trial_output.Goals as goal

pub returns-clause-answer : goal.returns-clause-answer
returns-clause-answer c =
    c.in_ok-status.ensures.answer ∙ c.in_ok-text.ensures
    ∙ of_lines c.args.cut c.script_in.result.now c.args.input.now c.script_in.ensures
