use Rattle.std.proofs.Common.{◌++◌}
use Rattle.broker_model.specs.Resolve.{resolve}
use Rattle.lines_explained.proofs.ExplainersReached.{rests}
use Rattle.lines_explained.proofs.explainer.Explainer.close.Goals as goal

pub returns-clause-lines : goal.returns-clause-lines
returns-clause-lines c = λ which capacity more before text h stands whole.
    rests which capacity more before text c.args.self.now c.close_line.new.self h c.close_line.ensures.stays
    (c.close_line.ensures.closed (resolve (more ++ before)) stands whole) whole
