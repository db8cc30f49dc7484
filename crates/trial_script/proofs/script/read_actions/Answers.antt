use Rattle.std.proofs.Common.{◌+◌, sym, ap, ◌∙◌, arith}
use Rattle.trial_script.specs.Lines.{lines_of}
use Rattle.trial_script.specs.Scripts.{actions_of}
use Rattle.trial_script.specs.declared.script.Ending.TheVariants as endings
use Rattle.trial_script.proofs.ScriptsRead.{behind, over_behind, one_more, ends_by, ends_bad, ends_open}
use Rattle.trial_script.proofs.script.read_actions.Goals as goal

pub loop-raw-preserved : goal.loop-raw-preserved
loop-raw-preserved c =
    let here = one_more c.args.fields c.loop-raw.number c.loop-raw.actions c.in-Act.action c.in-Some.raw.now
    (lines_of c.in-Some.more.now)
    (lines_of c.loop-raw.rest.now) c.in-Some.ensures.line (sym c.in-Act.is ∙ c.in_ok-action.ensures) in
    record {
      few = omega (arith, c.loop-raw.invariant.few, c.in-Some.ensures.fewer);
      all = ap (λ actions. behind actions
          (actions_of c.args.fields (c.loop-raw.number + 1) (lines_of c.in-Some.more.now)))
          c.in_ok-push-in-Act.ensures.ok ∙ sym here ∙ c.loop-raw.invariant.all;
    }

pub returns-in-End : goal.returns-in-End
returns-in-End c =
    let here = ends_by c.args.fields c.loop-raw.number c.loop-raw.actions c.in-Some.raw.now
    (lines_of c.in-Some.more.now)
    (lines_of c.loop-raw.rest.now) c.in-Some.ensures.line (sym c.in-End.is ∙ c.in_ok-action.ensures) in
    sym (over_behind c.loop-raw.actions endings.End) ∙ sym here ∙ c.loop-raw.invariant.all

pub returns-in-Bad : goal.returns-in-Bad
returns-in-Bad c =
    let here = ends_bad c.args.fields c.loop-raw.number c.loop-raw.actions c.in-Some.raw.now
    (lines_of c.in-Some.more.now)
    (lines_of c.loop-raw.rest.now) c.in-Some.ensures.line (sym c.in-Bad.is ∙ c.in_ok-action.ensures) in
    sym (over_behind c.loop-raw.actions (endings.BadLine c.loop-raw.number)) ∙ sym here ∙ c.loop-raw.invariant.all

pub returns : goal.returns
returns c =
    let here = ends_open c.args.fields c.loop-raw.number c.loop-raw.actions
    (lines_of c.loop-raw.rest.now) c.in_default.ensures.line in
    sym (over_behind c.loop-raw.actions (endings.Unended c.loop-raw.number)) ∙ sym here ∙ c.loop-raw.invariant.all
