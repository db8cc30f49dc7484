use Rattle.std.proofs.Common.{◌≡◌, ◌≢◌, ◌≤◌, ◌-◌, ◌++◌, ◌∙◌, ℕ, [], refl, sym, ap, subst, arith}
use Rattle.std.specs.Prelude.{Result, Err}
use Rattle.wio_core.specs.Io.{Rose}
use Rattle.wio_core.proofs.ReadsTogether.{TookFrom-both}
use Rattle.wl_wire.specs.Messages.{bad_size_at}
use Rattle.wl_wire.specs.Streams.{Assembly, begun}
use Rattle.hub_lock.specs.Passes.{IsOf, PeerPass}
use Rattle.peer_link.specs.declared.ends.ReadEnd.{ReadEnd}
use Rattle.peer_link.specs.declared.ends.ReadEnd.TheVariants as ends
use Rattle.peer_link.proofs.StepsMade.{saw-none, saw-both, pass-both}
use Rattle.peer_link.proofs.ShellServed.{entries-none, took-none}
use Rattle.peer_link.proofs.MessagesMade.{same-peer}
use Rattle.peer_link.proofs.FramesRead.{Reading, reading-begins, reading-goes, reading-ends, nothing-read}
use Rattle.peer_link.proofs.reader.read_frames.Goals as goal

-- no other end is a failed read
other-end : (end : ReadEnd) → end ≢ ends.ReadFault →
    (let e : Result (Unit {0}) ReadEnd = Err end in e ≢ Err ends.ReadFault)
other-end end n x = n (cc)

-- where the count stands, no fault was counted
none-counted : (a b c : ℕ) → c ≡ b → b ≡ a → c - a ≡ 0
none-counted a b c later before = omega arith

-- where one read failed, or none, one fault was counted at most
one-counted : (end : ReadEnd) (a b c : ℕ)
    → (let e : Result (Unit {0}) ReadEnd = Err end in e ≡ Err ends.ReadFault → Rose b c)
    → (let e : Result (Unit {0}) ReadEnd = Err end in e ≢ Err ends.ReadFault → c ≡ b) → b ≡ a → c - a ≤ 1
one-counted ends.ReadFault a b c rose stood before = let one = rose refl in omega (arith, one, before)
one-counted ends.Closed a b c rose stood before = let none = stood (λ x. cc) in omega (arith, none, before)
one-counted (ends.Torn n) a b c rose stood before = let none = stood (λ x. cc) in omega (arith, none, before)
one-counted (ends.BadFrame n t) a b c rose stood before = let none = stood (λ x. cc) in omega (arith, none, before)
one-counted (ends.Ended cause) a b c rose stood before = let none = stood (λ x. cc) in omega (arith, none, before)
one-counted (ends.JournalFull kept) a b c rose stood before = let none = stood (λ x. cc) in omega (arith, none, before)
one-counted ends.NoMemory a b c rose stood before = let none = stood (λ x. cc) in omega (arith, none, before)

pub returns-in-Err-clause-reads : goal.returns-in-Err-clause-reads
returns-in-Err-clause-reads g c = (
  [],
  took-none (g.S.Source.given c.args.source.now) (g.S.Source.left c.args.source.now),
  nothing-read c.args.hub.now.limits c.args.pass.now (g.S.Source.left c.args.source.now)
      (g.S.Source.fault_count c.args.source.now - g.S.Source.fault_count c.args.source.now)
      (entries-none c.args.pass.now.seat c.requires.fresh) (omega arith),
)

pub loop-init : goal.loop-init
loop-init g c = record {
  pass = refl;
  saw = saw-none c.args.hub.now.limits c.args.pass.now.seat.seen;
  reads = (
    [],
    took-none (g.S.Source.given c.args.source.now) (g.S.Source.left c.args.source.now),
    subst (λ (a : Assembly). Reading c.args.pass.now.peer c.args.pass.now [] (begun a)) (sym c.in-Ok.ensures.empty)
        (reading-begins c.args.pass.now.peer c.args.pass.now (entries-none c.args.pass.now.seat c.requires.fresh)),
  );
  good = ap (λ (a : Assembly). bad_size_at (begun a)) c.in-Ok.ensures.empty;
  given_quiet = λ e. e;
  left_quiet = λ e. e;
  faults = omega arith;
  no_fault = refl;
}

pub loop-preserved : goal.loop-preserved
loop-preserved g c =
    let i = c.loop.invariant in
    let e = c.in_default.ensures in
    let r = e.reads in record {
      pass = pass-both c.args.pass.now c.loop.pass c.read_frame.new.pass i.pass e.pass;
      saw = saw-both c.args.hub.now.limits c.args.pass.now.seat.seen c.loop.pass.seat.seen
          c.read_frame.new.pass.seat.seen i.saw e.saw;
      reads = (
        i.reads.0 ++ r.0,
        TookFrom-both (g.S.Source.given c.args.source.now) (g.S.Source.given c.loop.source)
            (g.S.Source.given c.read_frame.new.source)
            (g.S.Source.left c.args.source.now) (g.S.Source.left c.loop.source)
            (g.S.Source.left c.read_frame.new.source) i.reads.0 r.0 i.reads.1 r.1,
        reading-goes c.args.pass.now.peer c.loop.pass c.read_frame.new.pass i.reads.0 (begun c.loop.cutter)
            (begun c.read_frame.new.cutter) r.0 r.2.0
            (same-peer c.args.pass.now c.loop.pass i.pass) i.reads.2 r.2.1 r.2.2 r.2.3,
      );
      good = r.2.4;
      given_quiet = λ n. e.given_quiet (i.given_quiet n);
      left_quiet = λ n. e.left_quiet (i.left_quiet n);
      faults = (let a = i.faults in let b = e.never_falls in omega (arith, a, b));
      no_fault = e.no_fault (λ x. cc x) ∙ i.no_fault;
    }

pub returns-in-Err-read_frame-clause-reads : goal.returns-in-Err-read_frame-clause-reads
returns-in-Err-read_frame-clause-reads g c =
    let i = c.loop.invariant in
    let r = c.in-Err-read_frame.ensures.reads in (
      i.reads.0 ++ r.0,
      TookFrom-both (g.S.Source.given c.args.source.now) (g.S.Source.given c.loop.source)
          (g.S.Source.given c.read_frame.new.source)
          (g.S.Source.left c.args.source.now) (g.S.Source.left c.loop.source)
          (g.S.Source.left c.read_frame.new.source) i.reads.0 r.0 i.reads.1 r.1,
      reading-ends c.args.hub.now.limits c.args.pass.now.peer c.loop.pass c.read_frame.new.pass i.reads.0
          (begun c.loop.cutter)
          (begun c.read_frame.new.cutter) r.0 (g.S.Source.left c.read_frame.new.source)
          (g.S.Source.fault_count c.read_frame.new.source - g.S.Source.fault_count c.args.source.now)
          c.in-Err-read_frame.end
          (same-peer c.args.pass.now c.loop.pass i.pass) c.in-Err-read_frame.ensures.pass
          (λ n. none-counted (g.S.Source.fault_count c.args.source.now) (g.S.Source.fault_count c.loop.source)
          (g.S.Source.fault_count c.read_frame.new.source)
          (c.in-Err-read_frame.ensures.no_fault (other-end c.in-Err-read_frame.end n)) i.no_fault)
          (one-counted c.in-Err-read_frame.end (g.S.Source.fault_count c.args.source.now)
          (g.S.Source.fault_count c.loop.source) (g.S.Source.fault_count c.read_frame.new.source)
          c.in-Err-read_frame.ensures.cause c.in-Err-read_frame.ensures.no_fault i.no_fault)
          i.reads.2 r.2,
    )

pub read_frame-requires-clause-own : goal.read_frame-requires-clause-own
read_frame-requires-clause-own g c =
    subst (λ (p : PeerPass). IsOf c.args.hub.now p.seat) (sym c.loop.invariant.pass) c.requires.own

pub returns-in-Err-read_frame-clause-pass : goal.returns-in-Err-read_frame-clause-pass
returns-in-Err-read_frame-clause-pass g c =
    pass-both c.args.pass.now c.loop.pass c.read_frame.new.pass c.loop.invariant.pass c.in-Err-read_frame.ensures.pass

pub returns-in-Err-read_frame-clause-saw : goal.returns-in-Err-read_frame-clause-saw
returns-in-Err-read_frame-clause-saw g c =
    saw-both c.args.hub.now.limits c.args.pass.now.seat.seen c.loop.pass.seat.seen c.read_frame.new.pass.seat.seen
    c.loop.invariant.saw c.in-Err-read_frame.ensures.saw
