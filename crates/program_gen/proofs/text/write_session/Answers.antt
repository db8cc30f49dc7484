use Rattle.program_gen.proofs.TextFronts.{nothing_yet, err_any}
use Rattle.program_gen.proofs.text.write_session.Goals as goal

pub returns-in_err-run-clause-front : goal.returns-in_err-run-clause-front
returns-in_err-run-clause-front g c =
    err_any c.from_residual.result _ (nothing_yet (g.K.Sink.held c.args.output.now) c.args.number)
