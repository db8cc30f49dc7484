use Rattle.std.proofs.Common.{ℕ, Err, sym, ap, ◌∙◌}
use Rattle.std.proofs.lemmas.Result.{err_from_is_err_and}
use Rattle.broker_core.specs.declared.answers.JoinRefusal.{JoinRefusal}
use Rattle.trial_threads.specs.declared.no_job.NoJob.TheVariants as none
use Rattle.trial_threads.proofs.CausesSeen.{join_without, same_error, many_by}
use Rattle.trial_threads.proofs.peer.join_peer.Goals as goal

pub returns-in_err-join-clause-none : goal.returns-in_err-join-clause-none
returns-in_err-join-clause-none g c =
    let p = err_from_is_err_and c.from_residual.result c.from_residual.ensures.1 in
    let e = c.in_err-join.ensures.refused in
    rw (p.1, p.2)
    (λ (most : ℕ). join_without c.args.hub.now c.args.root.now c.join.new.root c.args.role most
    c.in_err-join.field-0.0 c.requires.own e.0 e.1)

pub returns-in_err-join-clause-few : goal.returns-in_err-join-clause-few
returns-in_err-join-clause-few g c few n is =
    let p = err_from_is_err_and c.from_residual.result c.from_residual.ensures.1 in
    let why = same_error c.from_residual.result p.0 (none.TooManyPeers n) p.1 is in
    c.join.ensures.few few n
    (c.in_err-join.was ∙ ap (λ (x : JoinRefusal). Err x) (many_by c.in_err-join.field-0.0 n (sym p.2 ∙ why)))
