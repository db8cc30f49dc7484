use Rattle.std.proofs.Common.{rules, ◌++◌, ◌∙◌, Some, ap}
use Rattle.serve_record.specs.declared.record.RecordStop.TheVariants as stops
use Rattle.serve_record.specs.Lines.{lines_text}
use Rattle.serve_record.proofs.RecordGrows.{gains_none, gains_lack, gains_out}
use Rattle.serve_record.proofs.record_text.RecordText.put.Goals as goal

pub returns-in_err-add_entry : goal.returns-in_err-add_entry
returns-in_err-add_entry g c =
    gains_lack g.K.Sink.held g.K.Sink.fault_count stops.WriteFault c.args.output.now _ _ _ (search rules) (search rules)

pub returns-then-len-lt-PIECE : goal.returns-then-len-lt-PIECE
returns-then-len-lt-PIECE g c =
    gains_none g.K.Sink.held g.K.Sink.fault_count stops.WriteFault c.args.output.now _ _ tt
    (c.in_ok-add_entry.ensures ∙ ap (λ t. t ++ lines_text (Some c.args.entry.now) (Some c.args.stamp)) c.self.view_is)

pub returns : goal.returns
returns g c =
    let e = c.write.ensures in
    gains_out g.K.Sink.held g.K.Sink.fault_count stops.WriteFault c.args.output.now c.write.new.output _ _ _
    c.write.result
    (c.in_ok-add_entry.ensures ∙ ap (λ t. t ++ lines_text (Some c.args.entry.now) (Some c.args.stamp)) c.self.view_is)
    e.whole e.none e.front e.never_falls e.cause e.no_fault
