use Rattle.std.proofs.Common.{◌∙◌, [], refl, sym, subst, arith}
use Rattle.hub_lock.specs.Passes.{IsOf, PassSeat}
use Rattle.peer_link.proofs.StepsMade.{saw-none, saw-both, seat-both}
use Rattle.peer_link.proofs.ShellServed.{took-none, nothing-read, serving-begins, can-begin, few-begun}
use Rattle.peer_link.proofs.shell.read_shell.Goals as goal

pub returns-in-Err-clause-law : goal.returns-in-Err-clause-law
returns-in-Err-clause-law g c = (
  [],
  took-none (g.S.Source.given c.args.source.now) (g.S.Source.left c.args.source.now),
  nothing-read c.args.hub.now.limits c.args.pass.now (g.S.Source.left c.args.source.now)
      (g.K.Sink.held c.args.sink.now) c.requires.fresh,
)

pub loop-init : goal.loop-init
loop-init g c = record {
  pass = refl;
  saw = saw-none c.args.hub.now.limits c.args.pass.now.seen;
  serves = (
    [],
    took-none (g.S.Source.given c.args.source.now) (g.S.Source.left c.args.source.now),
    serving-begins c.args.hub.now.limits c.args.pass.now c.in-Ok.reader (g.S.Source.left c.args.source.now)
        (g.K.Sink.held c.args.sink.now) c.requires.fresh c.in-Ok.ensures,
  );
  ahead = can-begin c.in-Ok.reader c.in-Ok.ensures;
  few = few-begun c.args.pass.now c.requires.fresh;
  given_quiet = λ e. e;
  left_quiet = λ e. e;
  held_quiet = λ e. e;
  reads = omega arith;
  writes = omega arith;
  no_read_fault = refl;
  no_write_fault = refl;
}

pub loop-preserved : goal.loop-preserved
loop-preserved g c =
    let i = c.loop.invariant in
    let e = c.in_default.ensures in
    let s = e.serves (g.S.Source.given c.args.source.now) (g.S.Source.left c.args.source.now)
    (g.K.Sink.held c.args.sink.now)
    i.serves.0 i.serves.1 i.serves.2 in record {
      pass = seat-both c.args.pass.now c.loop.pass c.serve_line.new.pass i.pass e.pass;
      saw = saw-both c.args.hub.now.limits c.args.pass.now.seen c.loop.pass.seen c.serve_line.new.pass.seen i.saw e.saw;
      serves = (s.0, s.1, s.2);
      ahead = e.ahead;
      few = e.few;
      given_quiet = λ n. e.given_quiet (i.given_quiet n);
      left_quiet = λ n. e.left_quiet (i.left_quiet n);
      held_quiet = λ n. e.held_quiet (i.held_quiet n);
      reads = (let a = i.reads in let b = e.reads_never_fall in omega (arith, a, b));
      writes = (let a = i.writes in let b = e.writes_never_fall in omega (arith, a, b));
      no_read_fault = e.no_read_fault (λ x. cc x) ∙ i.no_read_fault;
      no_write_fault = e.no_write_fault (λ x. cc x) ∙ i.no_write_fault;
    }

pub returns-in-Err-serve_line-clause-law : goal.returns-in-Err-serve_line-clause-law
returns-in-Err-serve_line-clause-law g c =
    let i = c.loop.invariant in
    let s = c.in-Err-serve_line.ensures.serves (g.S.Source.given c.args.source.now) (g.S.Source.left c.args.source.now)
    (g.K.Sink.held c.args.sink.now) i.serves.0 i.serves.1 i.serves.2 in (s.0, s.1, s.2)

pub serve_line-requires-clause-own : goal.serve_line-requires-clause-own
serve_line-requires-clause-own g c =
    subst (λ (p : PassSeat). IsOf c.args.hub.now p) (sym c.loop.invariant.pass) c.requires.own

pub returns-in-Err-serve_line-clause-pass : goal.returns-in-Err-serve_line-clause-pass
returns-in-Err-serve_line-clause-pass g c =
    seat-both c.args.pass.now c.loop.pass c.serve_line.new.pass c.loop.invariant.pass c.in-Err-serve_line.ensures.pass

pub returns-in-Err-serve_line-clause-saw : goal.returns-in-Err-serve_line-clause-saw
returns-in-Err-serve_line-clause-saw g c =
    saw-both c.args.hub.now.limits c.args.pass.now.seen c.loop.pass.seen c.serve_line.new.pass.seen c.loop.invariant.saw
    c.in-Err-serve_line.ensures.saw
