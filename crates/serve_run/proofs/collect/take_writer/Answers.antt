use Rattle.std.proofs.Common.{◌≡◌, Some, refl, subst}
use Rattle.std.proofs.Math.Logic.{∥∥₁_map}
use Rattle.serve_jobs.specs.LoopLaws.{HasWritten}
use Rattle.hub_lock.specs.Histories.{writer_of}
use Rattle.serve_run.proofs.LawsKept.{writer-seen}
use Rattle.serve_run.proofs.collect.take_writer.Goals as goal

pub returns-clause-law : goal.returns-clause-law
returns-clause-law g c =
    let done = c.args.done in
    let theirs = c.finish.ensures.both.theirs in
    ∥∥₁_map done.law (λ (law : HasWritten done.pass (g.K.Sink.held done.sink) done.end). record {
      pass = done.pass;
      seat = record { number = refl; constant = c.requires.own.1; seen = theirs };
      peer = refl;
      writes = writer-seen c.finish.new.root.seen done.pass.seat.seen done.pass.seat.number done.pass.peer
          done.pass.seat.number theirs
          (subst (λ q. writer_of done.pass.seat.seen q ≡ Some done.pass.seat.number) c.peer-peer.ensures.peer
          c.peer-peer.ensures.writes);
      law = law;
      fault = done.cause;
      no_fault = done.no_fault;
      hung_up = done.hung_up;
    })
