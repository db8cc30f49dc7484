use Rattle.std.proofs.Common.{[], refl, ap, sym, subst, append-nil}
use Rattle.program_run.proofs.LinePlayed.{line_played, few_done}
use Rattle.program_run.proofs.LinesTold.{line_came, end_or_long_came, limit_came, fault_came}
use Rattle.program_run.proofs.reading.next_line.Goals as goal

pub returns-in-Ok-clause-comes : goal.returns-in-Ok-clause-comes
returns-in-Ok-clause-comes g c = λ limit given left done read output gathered r st ho follows.
    let came = line_came given left _ _ _ _ _ c.next.follows.lender-at-none c.in-Line.raw done read r
    (rw c.in-Line.is at c.next.follows.holds-at-none)
    (λ held. ap g.S.Source.left (c.next.ensures.waits held)) in
    line_played g.P.Script.answer (g.P.Script.stands c.line.new.self) (g.P.Script.holds c.line.new.self) given left _ _
    _ _ done c.in-Line.raw.now read output gathered c.in-Ok.end
    came (c.in-Ok.ensures done output gathered (few_done given left _ _ _ done read r) st ho)

pub returns-in-Err-clause-comes : goal.returns-in-Err-clause-comes
returns-in-Err-clause-comes g c = λ limit given left done read output gathered r st ho follows.
    let came = line_came given left _ _ _ _ _ c.next.follows.lender-at-none c.in-Line.raw done read r
    (rw c.in-Line.is at c.next.follows.holds-at-none)
    (λ held. ap g.S.Source.left (c.next.ensures.waits held)) in
    (came.read_after, came.up_to.took, refl, came.near)

pub returns-in-End-clause-comes : goal.returns-in-End-clause-comes
returns-in-End-clause-comes g c = λ limit given left done read output gathered r st ho follows.
    let came = end_or_long_came g.P.Script.answer given left _ _ _ _ _ c.next.follows.lender-at-none c.next.result done
    read output c.bad_line.result c.in-End.is r c.next.follows.holds-at-none
    (λ held. ap g.S.Source.left (c.next.ensures.waits held))
    (λ e. let same = rw e at c.next.ensures.reads_nothing in (ap g.S.Source.given same, ap g.S.Source.left same))
    (c.bad_line.ensures done output (few_done given left _ _ _ done read r) st) in (
      [],
      came.read_after,
      came.took,
      subst (g.P.Script.holds c.args.script.now) (sym (append-nil gathered)) ho,
      rw
          (append-nil output) came.told,
      came.near,
    )

pub returns-in-Limit-clause-comes : goal.returns-in-Limit-clause-comes
returns-in-Limit-clause-comes g c = λ limit given left done read output gathered r st ho follows.
    let came = limit_came g.P.Script.answer given left _ _ _ _ _ c.next.follows.lender-at-none done read output r
    (rw c.in-Limit.is at c.next.follows.holds-at-none)
    (λ held. ap g.S.Source.left (c.next.ensures.waits held)) follows in (
      [],
      came.read_after,
      came.took,
      subst (g.P.Script.holds c.args.script.now) (sym (append-nil gathered)) ho,
      rw
          (append-nil output) came.told,
      came.near,
    )

pub returns-in-ReadFault-clause-comes : goal.returns-in-ReadFault-clause-comes
returns-in-ReadFault-clause-comes g c = λ limit given left done read output gathered r st ho follows.
    let came = fault_came given left _ _ _ _ _ c.next.follows.lender-at-none done read r
    (rw c.in-ReadFault.is at c.next.follows.holds-at-none)
    (λ held. ap g.S.Source.left (c.next.ensures.waits held)) in
    (came.read_after, came.took, came.lines, ho, came.begun, came.near)
