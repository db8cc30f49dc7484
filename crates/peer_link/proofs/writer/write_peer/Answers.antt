use Rattle.std.proofs.Common.{◌∙◌, refl, sym, subst, inl, arith}
use Rattle.std.proofs.KnownBytes.{Appends-nil}
use Rattle.hub_lock.specs.Passes.{IsOf, PeerPass}
use Rattle.peer_link.proofs.StepsMade.{saw-none, saw-both, pass-both}
use Rattle.peer_link.proofs.ShellServed.{entries-none}
use Rattle.peer_link.proofs.TakesWritten.{writes-on, own-by-peer}
use Rattle.peer_link.proofs.writer.write_peer.Goals as goal

pub loop-init : goal.loop-init
loop-init g c = record {
  pass = refl;
  saw = saw-none c.args.hub.now.limits c.args.pass.now.seat.seen;
  writes = inl (entries-none c.args.pass.now.seat c.requires.fresh, Appends-nil (g.K.Sink.held c.args.sink.now));
  quiet = λ e. e;
  faults = omega arith;
  no_fault = refl;
}

pub write_next-requires-clause-own : goal.write_next-requires-clause-own
write_next-requires-clause-own g c =
    subst (λ (p : PeerPass). IsOf c.args.hub.now p.seat) (sym c.loop.invariant.pass) c.requires.own

pub write_next-requires-clause-writes : goal.write_next-requires-clause-writes
write_next-requires-clause-writes g c =
    writes-on c.args.hub.now.limits c.args.pass.now c.loop.pass c.loop.invariant.pass c.loop.invariant.saw
    (own-by-peer c.args.pass.now c.peer.result c.peer.ensures.peer c.peer.ensures.writes)

pub loop-preserved : goal.loop-preserved
loop-preserved g c =
    let i = c.loop.invariant in
    let e = c.in_default.ensures in record {
      pass = pass-both c.args.pass.now c.loop.pass c.write_next.new.pass i.pass e.pass;
      saw = saw-both c.args.hub.now.limits c.args.pass.now.seat.seen c.loop.pass.seat.seen
          c.write_next.new.pass.seat.seen i.saw e.saw;
      writes = e.writes_on (g.K.Sink.held c.args.sink.now) i.writes;
      quiet = λ n. e.quiet (i.quiet n);
      faults = (let a = i.faults in let b = e.never_falls in omega (arith, a, b));
      no_fault = e.no_fault refl ∙ i.no_fault;
    }

pub returns-in-Err-clause-pass : goal.returns-in-Err-clause-pass
returns-in-Err-clause-pass g c =
    pass-both c.args.pass.now c.loop.pass c.write_next.new.pass c.loop.invariant.pass c.in-Err.ensures.pass

pub returns-in-Err-clause-saw : goal.returns-in-Err-clause-saw
returns-in-Err-clause-saw g c =
    saw-both c.args.hub.now.limits c.args.pass.now.seat.seen c.loop.pass.seat.seen c.write_next.new.pass.seat.seen
    c.loop.invariant.saw
    c.in-Err.ensures.saw
