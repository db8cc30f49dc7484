use Rattle.std.proofs.Common.{Err, refl, sym, ap, ◌∙◌}
use Rattle.std.proofs.lemmas.Result.{err_from_is_err_and}
use Rattle.trial_threads.specs.declared.no_job.NoJob.{NoJob}
use Rattle.trial_threads.specs.declared.no_job.NoJob.TheVariants as none
use Rattle.trial_threads.specs.NoJobs.{count_in}
use Rattle.trial_threads.proofs.CausesSeen.{back_without, same_error}
use Rattle.trial_threads.proofs.SetupsSent.{peer_ready}
use Rattle.trial_threads.proofs.peer.begin_peer.Goals as goal

pub returns-in_err-reader-clause-none : goal.returns-in_err-reader-clause-none
returns-in_err-reader-clause-none g c =
    let p = err_from_is_err_and c.from_residual.result c.from_residual.ensures.1 in
    rw (p.1, p.2) (c.in_err-reader.ensures.none (count_in c.args.setup.now))

pub returns-in_err-reader-clause-few : goal.returns-in_err-reader-clause-few
returns-in_err-reader-clause-few g c few n is =
    let p = err_from_is_err_and c.from_residual.result c.from_residual.ensures.1 in
    let why = same_error c.from_residual.result p.0 (none.TooManyPeers n) p.1 is in
    c.join_peer.ensures.few few n (c.in_err-reader.was ∙ ap (λ (x : NoJob). Err x) (sym p.2 ∙ why))

pub returns-in-Err-clause-none : goal.returns-in-Err-clause-none
returns-in-Err-clause-none g c =
    back_without c.args.hub.now c.args.root.now c.join_peer.new.root c.give_back.new.root c.args.role
    c.in_ok-reader.reader c.send_setup.new.reader c.in_ok-reader.writer (count_in c.args.setup.now) c.in-Err.why
    c.requires.own c.in_ok-reader.ensures.joined c.in_ok-reader.ensures.fresh.1 c.give_back.ensures
    c.in-Err.ensures.cause (λ n is. c.send_setup.ensures.few n (c.in-Err.is ∙ ap (λ (x : NoJob). Err x) is))
    c.in-Err.ensures.made

pub returns-in-Err-clause-few : goal.returns-in-Err-clause-few
returns-in-Err-clause-few g c few n is =
    let why = same_error (Err c.in-Err.why) c.in-Err.why (none.TooManyPeers n) refl is in
    c.send_setup.ensures.few n (c.in-Err.is ∙ ap (λ (x : NoJob). Err x) why)

pub returns-clause-ready : goal.returns-clause-ready
returns-clause-ready g c sents is =
    peer_ready c.args.hub.now c.args.root.now c.join_peer.new.root c.args.role c.in_ok-reader.reader
    c.in_ok-reader.writer c.send_setup.new.reader sents c.requires.own c.in_ok-reader.ensures.joined
    c.in_ok-reader.ensures.fresh.1 c.send_setup.ensures.pass c.send_setup.ensures.saw
    (c.in_default.ensures.sent sents is)
