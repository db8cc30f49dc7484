use Rattle.std.proofs.Common.{◌≡◌, ℕ, Err, sym, ap, subst, ◌∙◌}
use Rattle.std.proofs.lemmas.Result.{err_from_is_err_and}
use Rattle.client_side.specs.Messages.{spelled, method_setup}
use Rattle.trial_threads.specs.declared.no_job.NoJob.{NoJob}
use Rattle.trial_threads.specs.declared.no_job.NoJob.TheVariants as none
use Rattle.trial_threads.specs.NoJobs.{IsWithout, count_in, count_of}
use Rattle.trial_threads.proofs.CausesSeen.{untried, same_error}
use Rattle.trial_threads.proofs.method.begin_method.Goals as goal

pub returns-in_err-client-clause-none : goal.returns-in_err-client-clause-none
returns-in_err-client-clause-none g c =
    let p = err_from_is_err_and c.from_residual.result c.from_residual.ensures.1 in
    rw (p.1, p.2) (untried c.args.hub.now c.args.root.now (count_of method_setup) c.requires.own)

pub returns-in_err-client-clause-few : goal.returns-in_err-client-clause-few
returns-in_err-client-clause-few g c few n is =
    let p = err_from_is_err_and c.from_residual.result c.from_residual.ensures.1 in
    let why = same_error c.from_residual.result p.0 (none.TooManyPeers n) p.1 is in
    let no : none.NoMemory ≡ none.TooManyPeers n = sym p.2 ∙ why in cc

pub returns-in_err-reader-clause-none : goal.returns-in_err-reader-clause-none
returns-in_err-reader-clause-none g c =
    let p = err_from_is_err_and c.from_residual-in_err-reader.result c.from_residual-in_err-reader.ensures.1 in
    let setup : c.to_send.result.now ≡ spelled method_setup =
    c.to_send.ensures ∙ ap (λ k. k.state.to_send) c.in_ok-client.ensures.new in
    rw (p.1, p.2)
    (subst (λ (most : ℕ). IsWithout c.args.hub.now c.args.root.now c.begin_peer.new.root most c.in_err-reader.field-0.0)
    (ap count_in setup) c.in_err-reader.ensures.none)

pub returns-in_err-reader-clause-few : goal.returns-in_err-reader-clause-few
returns-in_err-reader-clause-few g c few n is =
    let p = err_from_is_err_and c.from_residual-in_err-reader.result c.from_residual-in_err-reader.ensures.1 in
    let why = same_error c.from_residual-in_err-reader.result p.0 (none.TooManyPeers n) p.1 is in
    c.begin_peer.ensures.few few n (c.in_err-reader.was ∙ ap (λ (x : NoJob). Err x) (sym p.2 ∙ why))
