use Rattle.std.proofs.Common.{◌≡◌, rules}
use Rattle.std.specs.Prelude.{slice_index_or}
use Rattle.std.proofs.lemmas.Result.{err_from_is_err_and}
use Rattle.trial_typing.proofs.FieldEdited.{not_made, not_written, is_made}
use Rattle.trial_typing.proofs.field_edits.edit_own.Goals as goal

pub returns-in_err-edit_copy-clause-edits : goal.returns-in_err-edit_copy-clause-edits
returns-in_err-edit_copy-clause-edits c = λ limits waits h.
    let x = c.index-as_slice-index.result in
    let lt = c.requires.within in
    let is : x ≡ slice_index_or c.args.job.now.edits c.args.index x = search rules in
    let p = err_from_is_err_and c.from_residual.result c.from_residual.ensures.1 in
    rw (p.1, p.2) (not_made limits c.args.job.now c.args.index x lt is waits h c.args.job.now.client)

pub returns-in_err-edit-clause-edits : goal.returns-in_err-edit-clause-edits
returns-in_err-edit-clause-edits c = λ limits waits h.
    let x = c.index-as_slice-index.result in
    let lt = c.requires.within in
    let is : x ≡ slice_index_or c.args.job.now.edits c.args.index x = search rules in
    let p = err_from_is_err_and c.from_residual-in_err-edit.result c.from_residual-in_err-edit.ensures.1 in
    rw (p.1, p.2) (not_made limits c.args.job.now c.args.index x lt is waits h c.edit.new.self)

pub returns-in_err-push-clause-edits : goal.returns-in_err-push-clause-edits
returns-in_err-push-clause-edits c = λ limits waits h.
    let x = c.index-as_slice-index.result in
    let lt = c.requires.within in
    let is : x ≡ slice_index_or c.args.job.now.edits c.args.index x = search rules in
    let p = err_from_is_err_and c.from_residual-in_err-push.result c.from_residual-in_err-push.ensures.1 in
    rw (p.1, p.2)
    (not_written limits c.args.job.now c.args.index x lt is waits h c.edit.new.self c.push.new.self
    c.in_err-push.ensures.err)

pub returns-clause-edits : goal.returns-clause-edits
returns-clause-edits c = λ limits waits h.
    let x = c.index-as_slice-index.result in
    let lt = c.requires.within in
    let is : x ≡ slice_index_or c.args.job.now.edits c.args.index x = search rules in
    is_made limits c.args.job.now c.args.index x lt is waits h c.edit.new.self c.push.new.self c.in_ok-edit_copy.field-0
    _ c.edit_view.ensures.value c.in_ok-edit_copy.ensures c.in_ok-edit.ensures.step c.in_ok-push.ensures.ok
    c.in_ok-edit.ensures.log
