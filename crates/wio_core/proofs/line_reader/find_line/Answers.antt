use Rattle.std.proofs.Common.{◌++◌}
use Rattle.wio_core.proofs.ReadsTogether.{TookFrom-both, Gathers-both}
use Rattle.wio_core.proofs.line_reader.find_line.Goals as goal

pub returns-in_err-read_more-clause-took : goal.returns-in_err-read_more-clause-took
returns-in_err-read_more-clause-took g c =
    let before = c.reading.invariant.took in
    let next = c.read_more.ensures.took in
    (before.0 ++ next.0, TookFrom-both _ _ _ _ _ _ _ _ before.1 next.1, Gathers-both _ _ _ _ _ _ _ _ before.2 next.2)
