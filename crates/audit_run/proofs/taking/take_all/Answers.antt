use Rattle.std.proofs.Common.{refl, ◌-◌}
use Rattle.std.proofs.lemmas.Result.{err_from_is_err_and}
use Rattle.seat_set.specs.Laws.{lines_played}
use Rattle.audit_run.specs.Taking.{audit_limits, takes_of}
use Rattle.audit_run.proofs.TakesDry.{one_emptied}
use Rattle.audit_run.proofs.TakesOnWay.{takes_begin, one_take, take_stopped, last_take, takes_over}
use Rattle.audit_run.proofs.taking.take_all.Goals as goal

pub takes-init : goal.takes-init
takes-init c = λ all o. takes_begin all c.args.number c.args.player.now c.args.gatherer.now o

pub returns-in_err-take_once : goal.returns-in_err-take_once
returns-in_err-take_once c =
    let p = err_from_is_err_and c.from_residual.result c.from_residual.ensures.1 in
    rw (p.1, p.2)
    (λ all o. take_stopped (lines_played audit_limits (takes_of c.args.number) c.args.player.now.play) all
    c.args.number c.takes.left c.in_err-take_once.field-0.0 c.takes.player c.take_once.new.player c.takes.gatherer
    c.take_once.new.gatherer c.takes-test.true (c.takes.invariant all o)
    (c.in_err-take_once.ensures all (c.takes.invariant all o).goes))

pub returns-then-branch : goal.returns-then-branch
returns-then-branch c = λ all o.
    let w = c.takes.invariant all o in
    let l = c.in_ok-take_once.ensures all w.goes in
    let dry = l.1 c.if-branch.true in
    last_take (lines_played audit_limits (takes_of c.args.number) c.args.player.now.play) all c.args.number
    c.takes.left c.takes.player c.take_once.new.player c.takes.gatherer c.take_once.new.gatherer c.empty.new.self
    c.takes-test.true w l.0 dry
    (one_emptied all c.args.number c.take_once.new.player c.take_once.new.gatherer c.empty.new.self l.0.2 dry
    c.empty.ensures.sides c.empty.ensures.others)

pub takes-preserved : goal.takes-preserved
takes-preserved c = λ all o.
    let w = c.takes.invariant all o in
    one_take (lines_played audit_limits (takes_of c.args.number) c.args.player.now.play) all c.args.number
    c.takes.left (c.takes.left - 1) c.takes.player c.take_once.new.player c.takes.gatherer c.take_once.new.gatherer
    c.takes-test.true refl w (c.in_ok-take_once.ensures all w.goes).0

pub returns : goal.returns
returns c = λ all o.
    takes_over (lines_played audit_limits (takes_of c.args.number) c.args.player.now.play) all c.args.number
    c.takes.left c.takes.player c.takes.gatherer c.takes-test.false (c.takes.invariant all o)
