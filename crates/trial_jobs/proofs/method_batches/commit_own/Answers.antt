use Rattle.std.proofs.Common.{◌≡◌, rules}
use Rattle.std.specs.Prelude.{slice_index_or}
use Rattle.std.proofs.lemmas.Result.{err_from_is_err_and}
use Rattle.trial_jobs.proofs.MethodCommitted.{fits_at, not_made, not_written, is_made}
use Rattle.trial_jobs.proofs.method_batches.commit_own.Goals as goal

pub returns-in_err-batch_copy-clause-commits : goal.returns-in_err-batch_copy-clause-commits
returns-in_err-batch_copy-clause-commits c = λ limits typist waits quiet h.
    let x = c.index-as_slice-index.result in
    let lt = c.requires.within in
    let is : x ≡ slice_index_or c.args.job.now.batches c.args.index x = search rules in
    let p = err_from_is_err_and c.from_residual.result c.from_residual.ensures.1 in
    rw (p.1, p.2) (not_made limits typist c.args.job.now c.args.index x lt is waits quiet h c.args.job.now.client)

pub returns-in_err-batch-clause-commits : goal.returns-in_err-batch-clause-commits
returns-in_err-batch-clause-commits c = λ limits typist waits quiet h.
    let x = c.index-as_slice-index.result in
    let lt = c.requires.within in
    let is : x ≡ slice_index_or c.args.job.now.batches c.args.index x = search rules in
    let p = err_from_is_err_and c.from_residual-in_err-batch.result c.from_residual-in_err-batch.ensures.1 in
    rw (p.1, p.2) (not_made limits typist c.args.job.now c.args.index x lt is waits quiet h c.batch.new.self)

pub returns-in_err-push-clause-commits : goal.returns-in_err-push-clause-commits
returns-in_err-push-clause-commits c = λ limits typist waits quiet h.
    let x = c.index-as_slice-index.result in
    let lt = c.requires.within in
    let is : x ≡ slice_index_or c.args.job.now.batches c.args.index x = search rules in
    let p = err_from_is_err_and c.from_residual-in_err-push.result c.from_residual-in_err-push.ensures.1 in
    rw (p.1, p.2)
    (not_written limits typist c.args.job.now c.args.index x lt is waits quiet h c.batch.new.self c.push.new.self
    c.in_err-push.ensures.err)

pub returns-clause-commits : goal.returns-clause-commits
returns-clause-commits c = λ limits typist waits quiet h.
    let x = c.index-as_slice-index.result in
    let lt = c.requires.within in
    let is : x ≡ slice_index_or c.args.job.now.batches c.args.index x = search rules in
    let fits = fits_at c.args.job.now.batches c.args.index x c.as_slice.ensures.each lt is in
    is_made limits typist c.args.job.now c.args.index x lt is waits quiet h c.batch.new.self c.push.new.self
    c.in_ok-batch_copy.field-0 _ c.batch_view.ensures.value c.in_ok-batch_copy.ensures fits c.in_ok-batch.ensures.step
    c.in_ok-push.ensures.ok

pub batch_view-requires : goal.batch_view-requires
batch_view-requires c =
    let x = c.index-as_slice-index.result in
    let lt = c.requires.within in
    let is : x ≡ slice_index_or c.args.job.now.batches c.args.index x = search rules in
    fits_at c.args.job.now.batches c.args.index x c.as_slice.ensures.each lt is
