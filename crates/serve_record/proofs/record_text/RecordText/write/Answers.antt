use Rattle.std.proofs.Common.{rules, subst}
use Rattle.serve_record.specs.Lines.{GainsFront}
use Rattle.serve_record.proofs.RecordGrows.{cut_is_front, on_err}
use Rattle.serve_record.proofs.record_text.RecordText.write.Goals as goal

pub returns-in_err-write_all-clause-front : goal.returns-in_err-write_all-clause-front
returns-in_err-write_all-clause-front g c =
    on_err _ _ (subst (GainsFront (g.K.Sink.held c.args.output.now) (g.K.Sink.held c.write_all.new.sink)) (search rules)
    (cut_is_front _ _ _ c.in_err-write_all.ensures.prefix))
