use Rattle.std.proofs.Common.{rules, ◌≡◌, ◌+◌, ◌-◌, ◌++◌, ◌∙◌, [], length, ap, sym, subst, arith, refl}
use Rattle.std.specs.Io.KnownBytes.{Appends}
use Rattle.session_text.specs.declared.line.Line.TheVariants.{End}
use Rattle.serve_record.specs.Recorded.{text_line}
use Rattle.serve_record.specs.Lines.{Holds, GainsFront, text_without}
use Rattle.serve_record.proofs.RecordGrows.{appends_none, holds_more, holds_then_front, holds_then_whole, front_of, on_err, ok_by, err_by}
use Rattle.serve_record.proofs.StepsText.{text_begins, text_grows, text_is_front, text_ends}
use Rattle.serve_record.proofs.record.write_record.Goals as goal

pub loop-before-init : goal.loop-before-init
loop-before-init g c =
    let session = c.args.session.now in
    let journal = session.journal.entries in
    let stamps = session.stamps.stamps in
    let all : length journal ≡ length journal - 0 = omega arith in record {
      holds = (
        [],
        appends_none (g.K.Sink.held c.args.output.now),
        c.in_ok-text.ensures ∙ (sym (text_begins session.limits journal stamps session.each)
            ∙ ap (λ n. text_without session.limits n journal stamps) all),
      );
      never_falls = omega arith;
      none_failed = refl;
    }

pub returns-in_err-write_entry-clause-front : goal.returns-in_err-write_entry-clause-front
returns-in_err-write_entry-clause-front g c =
    let session = c.args.session.now in
    let journal = session.journal.entries in
    let stamps = session.stamps.stamps in
    let before = c.loop-before.before in
    let newest = length journal - (before + 1) in
    let is = text_is_front session.limits journal stamps newest session.each in
    on_err _ _ (front_of _ _ _ is.0 _
    (holds_then_front _ _ _ _ _ _ c.loop-before.invariant.holds c.in_err-write_entry.ensures.front)
    (ap (λ t. t ++ is.0) (text_grows session.limits journal stamps before (search rules) session.each) ∙ is.1))

pub loop-before-preserved : goal.loop-before-preserved
loop-before-preserved g c =
    let session = c.args.session.now in
    let journal = session.journal.entries in
    let stamps = session.stamps.stamps in
    let before = c.loop-before.before in
    let one = c.loop-before.invariant.never_falls in
    let two = c.write_entry.ensures.never_falls in record {
      holds = subst
          (Holds (g.K.Sink.held c.args.output.now)
          (g.K.Sink.held c.write_entry.new.output) c.write_entry.new.text)
          (text_grows session.limits journal stamps before (search rules) session.each)
          (holds_more _ _ _ _ _ _ _ c.loop-before.invariant.holds c.in_ok-write_entry.ensures.whole);
      never_falls = omega arith;
      none_failed = c.in_ok-write_entry.ensures.no_fault (λ e. cc) ∙ c.loop-before.invariant.none_failed;
    }

pub returns-clause-whole : goal.returns-clause-whole
returns-clause-whole g c =
    let session = c.args.session.now in
    let journal = session.journal.entries in
    let stamps = session.stamps.stamps in
    let held = g.K.Sink.held c.args.output.now in
    let after = g.K.Sink.held c.end.new.output in
    let ends = text_ends session.limits journal stamps (length journal - c.loop-before.before) (search rules) in
    ok_by c.end.result _ _
    (λ out. subst (Appends held after) ends
    (holds_then_whole _ _ _ _ (text_line End) _ c.loop-before.invariant.holds out)) c.end.ensures.whole

pub returns-clause-front : goal.returns-clause-front
returns-clause-front g c =
    let session = c.args.session.now in
    let journal = session.journal.entries in
    let stamps = session.stamps.stamps in
    let held = g.K.Sink.held c.args.output.now in
    let after = g.K.Sink.held c.end.new.output in
    let ends = text_ends session.limits journal stamps (length journal - c.loop-before.before) (search rules) in
    err_by c.end.result _ _
    (λ cut. subst (GainsFront held after) ends
    (holds_then_front _ _ _ _ (text_line End) _ c.loop-before.invariant.holds cut)) c.end.ensures.front

pub returns-clause-cause : goal.returns-clause-cause
returns-clause-cause g c is =
    let rose = c.end.ensures.cause is in
    let same = c.loop-before.invariant.none_failed in omega arith

pub returns-clause-no_fault : goal.returns-clause-no_fault
returns-clause-no_fault g c other = c.end.ensures.no_fault other ∙ c.loop-before.invariant.none_failed
