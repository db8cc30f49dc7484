use Rattle.std.proofs.Common.{List, [], ◌+◌, ◌≤◌, Ok, length, true, subst, rules}
use Rattle.std.proofs.lemmas.Result.{err_from_is_err_and}
use Rattle.trial_field.specs.Log.{Batch}
use Rattle.hub_calls.specs.declared.submit.Sent as calls
use Rattle.trial_jobs.specs.MethodGoing.{MethodSends, IsMethodAt}
use Rattle.trial_jobs.specs.MethodLaw.{first_batches}
use Rattle.trial_jobs.proofs.MethodKept.{keeps_none, keeps_both, of_kept, committed_kept}
use Rattle.trial_jobs.proofs.MethodCommitted.{none_more}
use Rattle.trial_jobs.proofs.method_batches.make_batch.Goals as goal

pub returns-then-index-count-clause-keeps : goal.returns-then-index-count-clause-keeps
returns-then-index-count-clause-keeps g c = keeps_none c.args.hub.now.limits c.args.job.now

pub returns-then-index-count-clause-goes : goal.returns-then-index-count-clause-goes
returns-then-index-count-clause-goes g c = λ typist quiet h.
    let le : length c.args.job.now.batches ≤ c.args.index = search rules in
    subst (λ (own : List Batch). IsMethodAt c.args.hub.now.limits typist c.args.job.now own quiet true)
    (none_more c.args.job.now c.args.index le) h

pub returns-in_err-commit_own-clause-keeps : goal.returns-in_err-commit_own-clause-keeps
returns-in_err-commit_own-clause-keeps g c =
    committed_kept c.args.hub.now.limits c.args.job.now c.commit_own.new.job c.in_err-commit_own.ensures.same

pub returns-in_err-commit_own-clause-goes : goal.returns-in_err-commit_own-clause-goes
returns-in_err-commit_own-clause-goes g c = λ typist quiet h.
    let p = err_from_is_err_and c.from_residual.result c.from_residual.ensures.1 in
    rw (p.1, p.2) (c.in_err-commit_own.ensures.commits c.args.hub.now.limits typist [] quiet h)

pub send-requires : goal.send-requires
send-requires g c = record {
  of = of_kept c.args.hub.now c.args.job.now c.commit_own.new.job c.requires.of
      (committed_kept c.args.hub.now.limits c.args.job.now c.commit_own.new.job c.in_ok-commit_own.ensures.same);
}

pub returns-in_err-send-clause-keeps : goal.returns-in_err-send-clause-keeps
returns-in_err-send-clause-keeps g c =
    keeps_both c.args.hub.now.limits c.args.job.now c.commit_own.new.job c.send.new.job
    (committed_kept c.args.hub.now.limits c.args.job.now c.commit_own.new.job c.in_ok-commit_own.ensures.same)
    c.in_err-send.ensures.keeps

pub returns-in_err-send-clause-goes : goal.returns-in_err-send-clause-goes
returns-in_err-send-clause-goes g c = λ typist quiet h.
    let p = err_from_is_err_and c.from_residual-in_err-send.result c.from_residual-in_err-send.ensures.1 in
    let k = c.in_ok-commit_own.ensures.commits c.args.hub.now.limits typist [] quiet h in
    rw (p.1, p.2)
    (c.in_err-send.ensures.sends typist (first_batches c.args.job.now (c.args.index + 1)) k.0 quiet k.1)

pub returns-in-All-clause-keeps : goal.returns-in-All-clause-keeps
returns-in-All-clause-keeps g c =
    keeps_both c.args.hub.now.limits c.args.job.now c.commit_own.new.job c.send.new.job
    (committed_kept c.args.hub.now.limits c.args.job.now c.commit_own.new.job c.in_ok-commit_own.ensures.same)
    c.in_ok-send.ensures.keeps

pub returns-in-All-clause-goes : goal.returns-in-All-clause-goes
returns-in-All-clause-goes g c = λ typist quiet h.
    let own : List Batch = first_batches c.args.job.now (c.args.index + 1) in
    let k = c.in_ok-commit_own.ensures.commits c.args.hub.now.limits typist [] quiet h in
    subst (λ (s : calls.Sent). MethodSends c.args.hub.now.limits typist c.send.new.job own quiet (Ok s)) c.in-All.is
    (c.in_ok-send.ensures.sends typist own k.0 quiet k.1)

pub returns-in-Ended-clause-keeps : goal.returns-in-Ended-clause-keeps
returns-in-Ended-clause-keeps g c =
    keeps_both c.args.hub.now.limits c.args.job.now c.commit_own.new.job c.send.new.job
    (committed_kept c.args.hub.now.limits c.args.job.now c.commit_own.new.job c.in_ok-commit_own.ensures.same)
    c.in_ok-send.ensures.keeps

pub returns-in-Ended-clause-goes : goal.returns-in-Ended-clause-goes
returns-in-Ended-clause-goes g c = λ typist quiet h.
    let own : List Batch = first_batches c.args.job.now (c.args.index + 1) in
    let k = c.in_ok-commit_own.ensures.commits c.args.hub.now.limits typist [] quiet h in
    subst (λ (s : calls.Sent). MethodSends c.args.hub.now.limits typist c.send.new.job own quiet (Ok s)) c.in-Ended.is
    (c.in_ok-send.ensures.sends typist own k.0 quiet k.1)
