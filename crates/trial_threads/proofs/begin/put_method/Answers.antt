use Rattle.std.proofs.Common.{ℕ, Err, List, length, subst, sym, ap, ◌∙◌}
use Rattle.std.proofs.lemmas.Result.{err_from_is_err_and}
use Rattle.hub_lock.specs.Passes.{PassSeat}
use Rattle.trial_threads.specs.declared.no_job.NoJob.{NoJob}
use Rattle.trial_threads.specs.declared.running.Running.{Running}
use Rattle.trial_threads.specs.Peers.{HaveJoined}
use Rattle.trial_threads.proofs.JobsUnbegun.{few_joined, method_unbegun}
use Rattle.trial_threads.proofs.PeersBegin.{method_joined}
use Rattle.trial_threads.proofs.begin.put_method.Goals as goal

pub returns-in_err-method-clause-unbegun : goal.returns-in_err-method-clause-unbegun
returns-in_err-method-clause-unbegun g c =
    let p = err_from_is_err_and c.from_residual-in_err-method.result c.from_residual-in_err-method.ensures.1 in
    let why = c.in_err-method.field-0.0 in
    let rs = c.args.jobs.now.items in
    rw (p.1, p.2)
    (λ h few. method_unbegun c.args.hub.now c.args.root.now c.begin_method.new.root rs why h few
    c.in_err-method.ensures.none
    (λ n is. c.begin_method.ensures.few (few_joined c.args.root.now (length rs) rs h few) n
    (c.in_err-method.was ∙ ap (λ (x : NoJob). Err x) is)))

pub returns-clause-joined : goal.returns-clause-joined
returns-clause-joined g c h =
    let e = c.in_ok-method.ensures in
    subst (λ (rs : List Running). HaveJoined c.begin_method.new.root (length rs) rs) (sym c.in_ok-put.ensures.ok)
    (method_joined c.args.hub.now.limits c.args.root.now c.begin_method.new.root c.args.jobs.now.items
    c.in_ok-method.method e.begun e.ready.begun.fresh h)

pub returns-in_err-method-clause-named : goal.returns-in_err-method-clause-named
returns-in_err-method-clause-named g c = c.in_err-method.ensures.none.named

pub returns-in_err-put-clause-named : goal.returns-in_err-put-clause-named
returns-in_err-put-clause-named g c = ap (λ (s : PassSeat). s.named) c.in_ok-method.ensures.begun.joined.left

pub returns-clause-named : goal.returns-clause-named
returns-clause-named g c = ap (λ (s : PassSeat). s.named) c.in_ok-method.ensures.begun.joined.left
