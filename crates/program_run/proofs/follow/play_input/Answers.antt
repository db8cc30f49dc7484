use Rattle.std.proofs.Common.{◌++◌, ◌∙◌, refl, ap, arith, Err}
use Rattle.program_run.proofs.ReadLines.{first_read}
use Rattle.program_run.proofs.RunOnItsWay.{at_first, may_read, was_due, went_on}
use Rattle.program_run.proofs.RunEnds.{rose_later, none_ran, none_law, short_ran, short_law, told_ran, told_law, failed_ran, failed_law}
use Rattle.program_run.proofs.follow.play_input.Goals as goal

pub returns-in-Err-clause-ran : goal.returns-in-Err-clause-ran
returns-in-Err-clause-ran g c = none_ran _ g.P.Script.answer _ _ _ _ _ _

pub returns-in-Err-clause-line_by_line : goal.returns-in-Err-clause-line_by_line
returns-in-Err-clause-line_by_line g c = none_law g.P.Script.answer _ _ _

pub lines-init : goal.lines-init
lines-init g c = record {
  going = at_first g.P.Script.answer _ _ _ _ _ c.in-Ok.reader
      (first_read _ _ c.in-Ok.reader c.requires.small c.in-Ok.ensures)
      c.requires.stands c.requires.holds c.requires.follows;
  reads_grow = omega arith;
  writes_grow = omega arith;
  no_read_fault = refl;
  no_write_fault = refl;
}

pub next_line-requires : goal.next_line-requires
next_line-requires g c = may_read c.lines.invariant.going

-- what is ready is cut short

pub returns-in-Err-write_due-clause-ran : goal.returns-in-Err-write_due-clause-ran
returns-in-Err-write_due-clause-ran g c =
    let i = c.lines.invariant in
    short_ran _ _ _ _ _ c.in-Err-write_due.status i.going (c.in-Err-write_due.ensures.part i.going.ready i.going.kept)
    (λ e. rose_later _ _ _ i.no_write_fault (c.in-Err-write_due.ensures.cause (ap Err e)))

pub returns-in-Err-write_due-clause-line_by_line : goal.returns-in-Err-write_due-clause-line_by_line
returns-in-Err-write_due-clause-line_by_line g c =
    let i = c.lines.invariant in (
      i.going.read,
      i.going.up_to.took,
      short_law _ c.in-Err-write_due.status i.going (c.in-Err-write_due.ensures.part i.going.ready i.going.kept),
    )

-- one line more

pub lines-preserved : goal.lines-preserved
lines-preserved g c =
    let i = c.lines.invariant in
    let r = was_due (g.P.Script.stands c.write_due.new.script) (g.P.Script.holds c.write_due.new.script) _ i.going
    (c.in_default.ensures.stays i.going.done (i.going.written ++ i.going.ready) i.going.said)
    (c.in_default.ensures.due i.going.ready i.going.kept) in
    let come = (rw c.in-Ok-None.field-0-is at c.in-Ok-None.ensures.comes) _ _ _ r.going.done r.going.read
    (r.going.written ++ r.going.ready) r.going.ready r.going.up_to r.going.said r.going.kept r.going.follows in
    record {
      going = went_on (g.P.Script.stands c.next_line.new.script) (g.P.Script.holds c.next_line.new.script) _ _
          c.next_line.new.reader r come;
      reads_grow = omega (arith, i.reads_grow, c.in-Ok-None.ensures.never_falls);
      writes_grow = omega (arith, i.writes_grow, c.in_default.ensures.never_falls);
      no_read_fault = c.in-Ok-None.ensures.no_fault (λ e. cc e) ∙ i.no_read_fault;
      no_write_fault = c.in_default.ensures.no_fault (λ e. cc e) ∙ i.no_write_fault;
    }

pub lines-smaller : goal.lines-smaller
lines-smaller g c =
    let i = c.lines.invariant in
    let r = was_due (g.P.Script.stands c.write_due.new.script) (g.P.Script.holds c.write_due.new.script) _ i.going
    (c.in_default.ensures.stays i.going.done (i.going.written ++ i.going.ready) i.going.said)
    (c.in_default.ensures.due i.going.ready i.going.kept) in
    let come = (rw c.in-Ok-None.field-0-is at c.in-Ok-None.ensures.comes) _ _ _ r.going.done r.going.read
    (r.going.written ++ r.going.ready) r.going.ready r.going.up_to r.going.said r.going.kept r.going.follows in
    come.5

-- the last line

pub returns-in-Ok-Some-clause-ran : goal.returns-in-Ok-Some-clause-ran
returns-in-Ok-Some-clause-ran g c =
    let i = c.lines.invariant in
    let r = was_due (g.P.Script.stands c.write_due.new.script) (g.P.Script.holds c.write_due.new.script) _ i.going
    (c.in_default.ensures.stays i.going.done (i.going.written ++ i.going.ready) i.going.said)
    (c.in_default.ensures.due i.going.ready i.going.kept) in
    let come = (rw c.in-Ok-Some.field-0-is at c.in-Ok-Some.ensures.comes) _ _ _ r.going.done r.going.read
    (r.going.written ++ r.going.ready) r.going.ready r.going.up_to r.going.said r.going.kept r.going.follows in
    told_ran (g.P.Script.stands c.next_line.new.script) (g.P.Script.holds c.next_line.new.script) _ _ _
    c.next_line.new.reader _ _ _ _ c.in-Ok-Some.last c.write_end.result r come
    (c.write_end.ensures.ends (r.going.ready ++ come.0) come.3)
    (λ e. rose_later _ _ _ (c.in_default.ensures.no_fault (λ f. cc f) ∙ i.no_write_fault)
    (c.write_end.ensures.cause e))

pub returns-in-Ok-Some-clause-line_by_line : goal.returns-in-Ok-Some-clause-line_by_line
returns-in-Ok-Some-clause-line_by_line g c =
    let i = c.lines.invariant in
    let r = was_due (g.P.Script.stands c.write_due.new.script) (g.P.Script.holds c.write_due.new.script) _ i.going
    (c.in_default.ensures.stays i.going.done (i.going.written ++ i.going.ready) i.going.said)
    (c.in_default.ensures.due i.going.ready i.going.kept) in
    let come = (rw c.in-Ok-Some.field-0-is at c.in-Ok-Some.ensures.comes) _ _ _ r.going.done r.going.read
    (r.going.written ++ r.going.ready) r.going.ready r.going.up_to r.going.said r.going.kept r.going.follows in
    told_law (g.P.Script.stands c.next_line.new.script) (g.P.Script.holds c.next_line.new.script) _ _ _
    c.next_line.new.reader c.in-Ok-Some.last c.write_end.result r come
    (c.write_end.ensures.ends (r.going.ready ++ come.0) come.3)

-- a read failed, or there was no memory

pub returns-in-Err-next_line-clause-ran : goal.returns-in-Err-next_line-clause-ran
returns-in-Err-next_line-clause-ran g c =
    let i = c.lines.invariant in
    let r = was_due (g.P.Script.stands c.write_due.new.script) (g.P.Script.holds c.write_due.new.script) _ i.going
    (c.in_default.ensures.stays i.going.done (i.going.written ++ i.going.ready) i.going.said)
    (c.in_default.ensures.due i.going.ready i.going.kept) in
    let come = c.in-Err-next_line.ensures.comes _ _ _ r.going.done r.going.read
    (r.going.written ++ r.going.ready) r.going.ready r.going.up_to r.going.said r.going.kept r.going.follows in
    failed_ran (g.P.Script.stands c.next_line.new.script) (g.P.Script.holds c.next_line.new.script) _ _
    c.next_line.new.reader _ _ _ _ c.in-Err-next_line.status r come
    (λ e. rose_later _ _ _ i.no_read_fault (c.in-Err-next_line.ensures.cause (ap Err e)))

pub returns-in-Err-next_line-clause-line_by_line : goal.returns-in-Err-next_line-clause-line_by_line
returns-in-Err-next_line-clause-line_by_line g c =
    let i = c.lines.invariant in
    let r = was_due (g.P.Script.stands c.write_due.new.script) (g.P.Script.holds c.write_due.new.script) _ i.going
    (c.in_default.ensures.stays i.going.done (i.going.written ++ i.going.ready) i.going.said)
    (c.in_default.ensures.due i.going.ready i.going.kept) in
    let come = c.in-Err-next_line.ensures.comes _ _ _ r.going.done r.going.read
    (r.going.written ++ r.going.ready) r.going.ready r.going.up_to r.going.said r.going.kept r.going.follows in
    failed_law (g.P.Script.stands c.next_line.new.script) (g.P.Script.holds c.next_line.new.script) _ _
    c.next_line.new.reader c.in-Err-next_line.status r come
