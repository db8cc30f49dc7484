use Rattle.std.proofs.Common.{◌+◌, ◌∙◌, ap}
use Rattle.std.proofs.lemmas.Result.{err_from_is_err_and}
use Rattle.peer_link.proofs.ShellServed.{counted, not-read, not-ordered, answered, not-answered}
use Rattle.peer_link.proofs.shell.serve_line.Goals as goal

pub returns-in_err-step-clause-serves : goal.returns-in_err-step-clause-serves
returns-in_err-step-clause-serves g c = λ given left held read took s.
    let p = err_from_is_err_and c.from_residual.result c.from_residual.ensures.1 in
    rw (p.1, p.2)
    (not-read c.args.hub.now.limits given (g.S.Source.given c.args.source.now)
    (g.S.Source.given c.read_order.new.source) left
    (g.S.Source.left c.args.source.now) (g.S.Source.left c.read_order.new.source) held (g.K.Sink.held c.args.sink.now)
    c.args.pass.now c.args.reader.now c.read_order.new.reader read c.in_err-step.ensures.reads.0
    (c.steps-number.result + 1) took
    c.in_err-step.ensures.reads.1 s
    c.in_err-step.field-0.0
    (ap (λ n. n + 1) c.steps-number.ensures ∙ counted c.args.hub.now.limits c.args.pass.now c.args.reader.now read
    (g.S.Source.left c.args.source.now) held (g.K.Sink.held c.args.sink.now) s)
    (λ e. let same = rw e at c.in_err-step.ensures.stays in (ap g.S.Source.given same, ap g.S.Source.left same))
    c.in_err-step.ensures.reads.2)

pub returns-in_err-applied-clause-serves : goal.returns-in_err-applied-clause-serves
returns-in_err-applied-clause-serves g c = λ given left held read took s.
    let p = err_from_is_err_and c.from_residual-in_err-applied.result c.from_residual-in_err-applied.ensures.1 in
    rw (p.1, p.2)
    (not-ordered c.args.hub.now.limits given (g.S.Source.given c.args.source.now)
    (g.S.Source.given c.read_order.new.source) left
    (g.S.Source.left c.args.source.now) (g.S.Source.left c.read_order.new.source) held (g.K.Sink.held c.args.sink.now)
    c.args.pass.now c.args.reader.now c.read_order.new.reader read c.in_ok-step.ensures.reads.0
    (c.steps-number.result + 1) took
    c.in_ok-step.ensures.reads.1 s
    c.give_order.new.pass c.in_ok-step.step c.in_err-applied.field-0.0 c.in_ok-step.ensures.reads.2
    c.in_err-applied.ensures.refused)

pub returns-in-Ok-clause-serves : goal.returns-in-Ok-clause-serves
returns-in-Ok-clause-serves g c = λ given left held read took s.
    answered c.args.hub.now.limits given (g.S.Source.given c.args.source.now)
    (g.S.Source.given c.read_order.new.source) left
    (g.S.Source.left c.args.source.now) (g.S.Source.left c.read_order.new.source) held (g.K.Sink.held c.args.sink.now)
    c.args.pass.now c.args.reader.now c.read_order.new.reader read c.in_ok-step.ensures.reads.0
    (c.steps-number.result + 1) took
    c.in_ok-step.ensures.reads.1 s
    c.give_order.new.pass c.in_ok-step.step c.in_ok-applied.applied (g.K.Sink.held c.write_answer.new.sink)
    c.in_ok-step.ensures.reads.2 c.in_ok-applied.ensures.ordered c.in-Ok.ensures.whole

pub returns-in-Err-clause-serves : goal.returns-in-Err-clause-serves
returns-in-Err-clause-serves g c = λ given left held read took s.
    not-answered c.args.hub.now.limits given (g.S.Source.given c.args.source.now)
    (g.S.Source.given c.read_order.new.source) left
    (g.S.Source.left c.args.source.now) (g.S.Source.left c.read_order.new.source) held (g.K.Sink.held c.args.sink.now)
    c.args.pass.now c.args.reader.now c.read_order.new.reader read c.in_ok-step.ensures.reads.0
    (c.steps-number.result + 1) took
    c.in_ok-step.ensures.reads.1 s
    c.give_order.new.pass c.in_ok-step.step c.in_ok-applied.applied
    (g.K.Sink.held c.write_answer.new.sink) c.in-Err.ensures.prefix.0
    c.in_ok-step.ensures.reads.2 c.in_ok-applied.ensures.ordered c.in-Err.ensures.prefix.1 c.in-Err.ensures.prefix.2
