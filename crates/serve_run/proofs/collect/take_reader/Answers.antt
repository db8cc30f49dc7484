use Rattle.std.proofs.Common.{◌≡◌, Some, refl, subst}
use Rattle.std.proofs.Math.Logic.{∥∥₁_map}
use Rattle.serve_jobs.specs.LoopLaws.{HasRead}
use Rattle.hub_lock.specs.Histories.{reader_of}
use Rattle.serve_run.proofs.LawsKept.{reader-seen}
use Rattle.serve_run.proofs.collect.take_reader.Goals as goal

pub returns-clause-law : goal.returns-clause-law
returns-clause-law g c =
    let done = c.args.done in
    let theirs = c.finish.ensures.both.theirs in
    ∥∥₁_map done.law
    (λ (law : HasRead done.pass (g.S.Source.given done.source) (g.S.Source.left done.source)
    (g.S.Source.fault_count done.source) done.end). record {
      pass = done.pass;
      seat = record { number = refl; constant = c.requires.own.1; seen = theirs };
      peer = refl;
      reads = reader-seen c.finish.new.root.seen done.pass.seat.seen done.pass.seat.number done.pass.peer
          done.pass.seat.number theirs
          (subst (λ q. reader_of done.pass.seat.seen q ≡ Some done.pass.seat.number) c.peer-peer.ensures.peer
          c.peer-peer.ensures.reads);
      law = law;
      fault = done.cause;
      no_fault = done.no_fault;
    })
