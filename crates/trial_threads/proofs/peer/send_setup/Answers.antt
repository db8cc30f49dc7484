use Rattle.std.proofs.Common.{sym, ◌∙◌}
use Rattle.std.proofs.lemmas.Result.{err_from_is_err_and}
use Rattle.hub_calls.proofs.PassesGrow.{same_peer}
use Rattle.trial_threads.specs.declared.no_job.NoJob.TheVariants as none
use Rattle.trial_threads.proofs.CausesSeen.{setup_cause, same_error, none_by}
use Rattle.trial_threads.proofs.SetupsSent.{made_by}
use Rattle.trial_threads.proofs.StepsFew.{setup_few}
use Rattle.trial_threads.proofs.peer.send_setup.Goals as goal

pub returns-in_err-submit_messages-clause-cause : goal.returns-in_err-submit_messages-clause-cause
returns-in_err-submit_messages-clause-cause g c =
    let p = err_from_is_err_and c.from_residual.result c.from_residual.ensures.1 in
    rw (p.1, p.2)
    (setup_cause c.args.hub.now.limits c.args.reader.now c.submit_messages.new.pass c.args.reader.now.peer
    c.args.setup.now c.in_err-submit_messages.field-0.0 c.in_err-submit_messages.ensures.made)

pub returns-in_err-submit_messages-clause-made : goal.returns-in_err-submit_messages-clause-made
returns-in_err-submit_messages-clause-made g c =
    let p = err_from_is_err_and c.from_residual.result c.from_residual.ensures.1 in
    rw p.1
    (setup_few c.args.hub.now.limits c.args.reader.now c.submit_messages.new.pass c.args.reader.now.peer
    c.args.setup.now c.in_err-submit_messages.field-0.0 c.requires.fresh c.in_err-submit_messages.ensures.made)

pub returns-in_err-submit_messages-clause-few : goal.returns-in_err-submit_messages-clause-few
returns-in_err-submit_messages-clause-few g c n is =
    let p = err_from_is_err_and c.from_residual.result c.from_residual.ensures.1 in
    let why = same_error c.from_residual.result p.0 (none.TooManyPeers n) p.1 is in
    none_by c.in_err-submit_messages.field-0.0 n (sym p.2 ∙ why)

pub returns-clause-sent : goal.returns-clause-sent
returns-clause-sent g c = λ sents is.
    made_by c.args.hub.now.limits c.args.reader.now c.submit_messages.new.pass c.args.setup.now sents c.requires.fresh
    (same_peer c.args.reader.now c.submit_messages.new.pass c.in_ok-submit_messages.ensures.pass) is
    c.in_ok-submit_messages.field-0 c.in_ok-submit_messages.ensures.made
