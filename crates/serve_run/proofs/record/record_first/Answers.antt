use Rattle.std.proofs.Common.{rules, ◌∙◌, ap, sym}
use Rattle.broker_steps.specs.declared.limits.Limits.{Limits}
use Rattle.session_text.specs.declared.line.Line.TheVariants.{Header}
use Rattle.serve_record.specs.Recorded.{text_line}
use Rattle.serve_run.proofs.HandedEnds.{on_lack, nothing_yet, begun}
use Rattle.serve_run.proofs.record.record_first.Goals as goal

pub returns-in_err-text-clause-written : goal.returns-in_err-text-clause-written
returns-in_err-text-clause-written g c =
    on_lack _ _ _ (search rules)
    (nothing_yet c.args.hub.now.limits (g.K.Sink.held c.args.output.now) c.args.pass.now.handed)

pub returns-in_err-record_handed-clause-written : goal.returns-in_err-record_handed-clause-written
returns-in_err-record_handed-clause-written g c =
    let held = g.K.Sink.held c.args.output.now in
    on_lack _ _ _ (search rules)
    (c.in_err-record_handed.ensures.written held
    (begun c.args.hub.now.limits held c.in_ok-text.text c.args.pass.now.handed
    (c.in_ok-text.ensures ∙ ap (λ (l : Limits). text_line (Header l)) (sym c.requires.limits)) c.requires.none)).1

pub returns-clause-written : goal.returns-clause-written
returns-clause-written g c =
    let held = g.K.Sink.held c.args.output.now in (
      (c.in_ok-record_handed.ensures.written held
          (begun c.args.hub.now.limits held c.in_ok-text.text c.args.pass.now.handed
          (c.in_ok-text.ensures ∙ ap (λ (l : Limits). text_line (Header l)) (sym c.requires.limits))
          c.requires.none)).0,
      tt,
    )
