use Rattle.std.proofs.Common.{refl}
use Rattle.std.proofs.Math.Logic.{∥∥₁_map}
use Rattle.serve_jobs.specs.LoopLaws.{HasOrdered}
use Rattle.serve_run.proofs.collect.take_shell.Goals as goal

pub returns-clause-law : goal.returns-clause-law
returns-clause-law g c =
    let done = c.args.done in
    ∥∥₁_map done.law
    (λ (law : HasOrdered done.pass (g.S.Source.given done.source) (g.S.Source.left done.source)
    (g.K.Sink.held done.sink) done.end). record {
      shell = done.pass;
      seat = record { number = refl; constant = c.requires.own.1; seen = c.finish.ensures.both.theirs };
      nobody = refl;
      law = law;
      read_fault = done.read_fault;
      write_fault = done.write_fault;
      no_read_fault = done.no_read_fault;
      no_write_fault = done.no_write_fault;
      hung_up = done.hung_up;
    })
