use Rattle.hub_lock.specs.Finished.{seat_of}
use Rattle.serve_run.proofs.RootKept.{given_back}
use Rattle.serve_run.proofs.start.take_back.Goals as goal

pub returns-clause-back : goal.returns-clause-back
returns-clause-back c =
    given_back c.args.hub.now c.args.root.now c.finish.new.root
    (seat_of c.args.pass) c.requires.root c.finish.ensures.met
    c.finish.ensures.both

pub returns-clause-theirs : goal.returns-clause-theirs
returns-clause-theirs c = c.finish.ensures.both.theirs
