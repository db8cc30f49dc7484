use Rattle.std.proofs.Common.{◌∙◌, sym, subst, arith}
use Rattle.hub_lock.specs.Passes.{PassSeat, IsOf}
use Rattle.serve_record.proofs.HandedWritten.{no_step_on}
use Rattle.serve_run.proofs.HandedEnds.{all_handed}
use Rattle.serve_run.proofs.record.record_rest.Goals as goal

pub record_handed-requires : goal.record_handed-requires
record_handed-requires g c = record {
  own = subst (λ (s : PassSeat). IsOf c.args.hub.now s) (sym c.loop.invariant.none_made.seat) c.requires.own;
}

pub returns-in_err-record_handed-clause-none_made : goal.returns-in_err-record_handed-clause-none_made
returns-in_err-record_handed-clause-none_made g c =
    let e = c.record_handed.ensures in
    no_step_on c.args.pass.now.seat c.loop.pass.seat c.record_handed.new.pass.seat c.loop.invariant.none_made
    (record { seat = e.seat; seen = e.seen })

pub returns-then-seen-count-clause-none_made : goal.returns-then-seen-count-clause-none_made
returns-then-seen-count-clause-none_made g c =
    let e = c.record_handed.ensures in
    no_step_on c.args.pass.now.seat c.loop.pass.seat c.record_handed.new.pass.seat c.loop.invariant.none_made
    (record { seat = e.seat; seen = e.seen })

pub returns-then-seen-count-clause-all : goal.returns-then-seen-count-clause-all
returns-then-seen-count-clause-all g c =
    all_handed c.args.hub.now c.record_handed.new.pass.seat.seen c.args.root.now c.record_handed.new.pass.handed
    c.count-count.result c.seen-seen.result c.requires.root c.in_ok-record_handed.ensures.all
    c.count-count.ensures.number c.seen-seen.ensures.number c.if-seen-count.true

pub returns-then-seen-count-clause-written : goal.returns-then-seen-count-clause-written
returns-then-seen-count-clause-written g c first held =
    c.in_ok-record_handed.ensures.written first (c.loop.invariant.written first held)

pub loop-preserved : goal.loop-preserved
loop-preserved g c =
    let i = c.loop.invariant in
    let e = c.record_handed.ensures in
    let one = i.never_falls in
    let two = e.never_falls in record {
      none_made = no_step_on c.args.pass.now.seat c.loop.pass.seat c.record_handed.new.pass.seat i.none_made
          (record { seat = e.seat; seen = e.seen });
      written = λ first held. (c.in_ok-record_handed.ensures.written first (i.written first held)).0;
      never_falls = omega arith;
      none_failed = c.in_ok-record_handed.ensures.no_fault (λ is. cc) ∙ i.none_failed;
    }
