use Rattle.std.proofs.Common.{arith, subst}
use Rattle.audit_fields.specs.declared.comparison.HearEnd.{HearEnd}
use Rattle.audit_fields.specs.Hearing.{IsUnlike}
use Rattle.audit_run.proofs.LinesJudged.{answered_fair, answered_stands, answered_ends, answered_full, heard_fair, heard_stands, heard_ends}
use Rattle.audit_run.proofs.audit.Audit.judge.Goals as goal

pub returns-in-Step-clause-fair : goal.returns-in-Step-clause-fair
returns-in-Step-clause-fair c =
    answered_fair c.args.line.now c.in-Step.stamp c.in-Step.said _ c.args.self.now c.play_step-played.new.player
    c.play_step-played.new.gatherer c.play_step-played.result c.answer.result c.self.view_is c.in-Step.is
    c.answer.ensures c.play_step-played.ensures

pub returns-in-Step-clause-stands : goal.returns-in-Step-clause-stands
returns-in-Step-clause-stands c =
    answered_stands c.args.line.now c.in-Step.stamp c.in-Step.said _ c.args.self.now c.play_step-played.new.player
    c.play_step-played.new.gatherer c.play_step-played.result c.answer.result c.self.view_is c.in-Step.is
    c.answer.ensures c.play_step-played.ensures

pub returns-in-Step-clause-end : goal.returns-in-Step-clause-end
returns-in-Step-clause-end c =
    answered_ends c.args.line.now c.in-Step.stamp c.in-Step.said _ c.args.self.now c.play_step-played.new.player
    c.play_step-played.new.gatherer c.play_step-played.result c.answer.result c.self.view_is c.in-Step.is
    c.answer.ensures c.play_step-played.ensures

pub returns-in-Step-clause-full : goal.returns-in-Step-clause-full
returns-in-Step-clause-full c = λ kept lines full s.
    answered_full c.args.line.now c.in-Step.stamp c.in-Step.said _ c.args.self.now c.play_step-played.new.player
    c.play_step-played.new.gatherer c.play_step-played.result c.answer.result kept lines c.self.view_is c.in-Step.is
    c.answer.ensures c.play_step-played.ensures full s

pub returns-in-Ok-clause-fair : goal.returns-in-Ok-clause-fair
returns-in-Ok-clause-fair c =
    heard_fair c.args.line.now c.in-Out.number c.in-Ok.more _ c.as_slice.result.now _ c.args.self.now
    c.hear.new.self c.self.view_is c.in-Out.is c.as_slice.ensures.value c.in-Ok.ensures.heard

pub returns-in-Ok-clause-stands : goal.returns-in-Ok-clause-stands
returns-in-Ok-clause-stands c =
    heard_stands c.args.line.now c.in-Out.number c.in-Ok.more c.saturating_add-self-inside.result _
    c.as_slice.result.now _ c.args.self.now c.hear.new.self c.self.view_is c.in-Out.is c.as_slice.ensures.value
    c.in-Ok.ensures.heard c.in-Ok.ensures.whole (omega (arith, c.saturating_add-self-inside.ensures))

pub returns-in-Err-Unlike-clause-end : goal.returns-in-Err-Unlike-clause-end
returns-in-Err-Unlike-clause-end c =
    heard_ends c.args.line.now c.in-Out.number _ c.as_slice.result.now _ c.args.self.now c.self.view_is c.in-Out.is
    c.as_slice.ensures.value
    (λ capacity all journal f.
    subst (λ (why : HearEnd). IsUnlike capacity c.in-Out.number c.as_slice.result.now journal all why)
    c.in-Err-Unlike.field-0-is (c.in-Err-Unlike.ensures.unlike capacity all journal f))
