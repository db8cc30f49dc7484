use Rattle.std.proofs.Common.{◌≡◌, ◌++◌, ◌∙◌, Some, ap, sym, subst}
use Rattle.broker_model.specs.Recorded.{entry_at}
use Rattle.hub_lock.proofs.LinesOfEntries.{any-fits}
use Rattle.serve_record.specs.declared.record.RecordStop.TheVariants as stops
use Rattle.serve_record.specs.Lines.{lines_text, Gains}
use Rattle.serve_record.proofs.StepsText.{kept_is}
use Rattle.serve_record.proofs.record.write_entry.Goals as goal

pub put-requires : goal.put-requires
put-requires g c =
    let session = c.args.session.now in
    any-fits session.journal.entries c.args.number c.in-Some.entry.now session.lines
    (sym (c.in-Some.ensures.value ∙ kept_is session.journal.kept_from session.journal.entries c.args.number
    session.whole c.requires.first))

pub returns : goal.returns
returns g c =
    let session = c.args.session.now in
    let journal = session.journal.entries in
    let stamps = session.stamps.stamps in
    let number = c.args.number in
    let entry : Some c.in-Some.entry.now ≡ entry_at journal number =
    c.in-Some.ensures.value ∙ kept_is session.journal.kept_from journal number session.whole c.requires.first in
    let stamp : Some c.in-Some-entry.stamp.now ≡ entry_at stamps number =
    c.in-Some-entry.ensures.value ∙ kept_is session.stamps.kept_from stamps number session.all_stamps
    c.requires.first in
    let line = ap (λ o. lines_text o (Some c.in-Some-entry.stamp.now)) entry
    ∙ ap (λ o. lines_text (entry_at journal number) o) stamp in
    subst (λ t. Gains g.K.Sink.held g.K.Sink.fault_count c.args.output.now c.put.new.output c.put.new.self
    (c.args.text.now ++ t) stops.WriteFault c.put.result) line c.put.ensures
