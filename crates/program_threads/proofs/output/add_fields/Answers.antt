use Rattle.std.proofs.Common.{◌+◌, ◌++◌, ◌∙◌, ap, arith, string_bytes}
use Rattle.trial_run.specs.Lines.{show_line}
use Rattle.program_threads.proofs.LinesShown.{field_shown}
use Rattle.program_threads.proofs.output.add_fields.Goals as goal

pub loop-log-preserved : goal.loop-log-preserved
loop-log-preserved c = record {
  number = omega (arith, c.loop-log.invariant.number);
  text = field_shown _ _ _ c.args.logs.now c.loop-log.log-index c.loop-log.number c.log-item.result
      c.loop-log-test.true c.loop-log.invariant.number c.log-item.is c.loop-log.invariant.text
      (c.in_ok-add_field.ensures
      ∙ ap (λ f. string_bytes c.loop-log.text ++ show_line (c.loop-log.number + 1) f) c.in_ok-field.ensures);
}
