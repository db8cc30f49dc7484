use Rattle.std.proofs.Common.{false, ◌≡◌, ◌+◌, Ok, subst, rules}
use Rattle.std.proofs.lemmas.Result.{err_from_is_err_and}
use Rattle.hub_calls.specs.declared.submit.Sent as calls
use Rattle.trial_typing.specs.FieldGoing.{FieldSends}
use Rattle.trial_typing.specs.FieldLaw.{first_edits}
use Rattle.trial_typing.proofs.FieldKept.{keeps_both, of_kept}
use Rattle.trial_typing.proofs.FieldEdited.{going_at, edited_kept, edited_over}
use Rattle.trial_typing.proofs.field_edits.make_edit.Goals as goal

pub returns-in_err-edit_own-clause-keeps : goal.returns-in_err-edit_own-clause-keeps
returns-in_err-edit_own-clause-keeps g c = edited_kept c.args.hub.now.limits c.args.job.now c.edit_own.new.job
    c.in_err-edit_own.ensures.same

pub returns-in_err-edit_own-clause-goes : goal.returns-in_err-edit_own-clause-goes
returns-in_err-edit_own-clause-goes g c = λ h.
    let p = err_from_is_err_and c.from_residual.result c.from_residual.ensures.1 in
    let w = going_at c.args.hub.now.limits c.args.job.now (first_edits c.args.job.now c.args.index) c.args.goes_on h in
    rw (p.1, p.2) (c.in_err-edit_own.ensures.edits c.args.hub.now.limits w.0 w.1)

pub returns-then-not-goes_on-clause-keeps : goal.returns-then-not-goes_on-clause-keeps
returns-then-not-goes_on-clause-keeps g c = edited_kept c.args.hub.now.limits c.args.job.now c.edit_own.new.job
    c.in_ok-edit_own.ensures.same

pub returns-then-not-goes_on-clause-goes : goal.returns-then-not-goes_on-clause-goes
returns-then-not-goes_on-clause-goes g c = λ h.
    let e : c.args.goes_on ≡ false = search rules in
    let w = going_at c.args.hub.now.limits c.args.job.now (first_edits c.args.job.now c.args.index) c.args.goes_on h in
    edited_over c.args.hub.now.limits c.args.job.now c.edit_own.new.job (first_edits c.args.job.now c.args.index)
    (first_edits c.args.job.now (c.args.index + 1)) c.args.goes_on
    c.in_ok-edit_own.ensures.same e h (c.in_ok-edit_own.ensures.edits c.args.hub.now.limits w.0 w.1)

pub send-requires : goal.send-requires
send-requires g c = record {
  of = of_kept c.args.hub.now c.args.job.now c.edit_own.new.job c.requires.of
      (edited_kept c.args.hub.now.limits c.args.job.now c.edit_own.new.job c.in_ok-edit_own.ensures.same);
}

pub returns-in_err-send-clause-keeps : goal.returns-in_err-send-clause-keeps
returns-in_err-send-clause-keeps g c =
    keeps_both c.args.hub.now.limits c.args.job.now c.edit_own.new.job c.send.new.job
    (edited_kept c.args.hub.now.limits c.args.job.now c.edit_own.new.job c.in_ok-edit_own.ensures.same)
    c.in_err-send.ensures.keeps

pub returns-in_err-send-clause-goes : goal.returns-in_err-send-clause-goes
returns-in_err-send-clause-goes g c = λ h.
    let p = err_from_is_err_and c.from_residual-in_err-send.result c.from_residual-in_err-send.ensures.1 in
    let w = going_at c.args.hub.now.limits c.args.job.now (first_edits c.args.job.now c.args.index) c.args.goes_on h in
    let k = c.in_ok-edit_own.ensures.edits c.args.hub.now.limits w.0 w.1 in
    rw (p.1, p.2) (c.in_err-send.ensures.sends (first_edits c.args.job.now (c.args.index + 1)) k.0 k.1)

pub returns-in-All-clause-keeps : goal.returns-in-All-clause-keeps
returns-in-All-clause-keeps g c =
    keeps_both c.args.hub.now.limits c.args.job.now c.edit_own.new.job c.send.new.job
    (edited_kept c.args.hub.now.limits c.args.job.now c.edit_own.new.job c.in_ok-edit_own.ensures.same)
    c.in_ok-send.ensures.keeps

pub returns-in-All-clause-goes : goal.returns-in-All-clause-goes
returns-in-All-clause-goes g c = λ h.
    let w = going_at c.args.hub.now.limits c.args.job.now (first_edits c.args.job.now c.args.index) c.args.goes_on h in
    let k = c.in_ok-edit_own.ensures.edits c.args.hub.now.limits w.0 w.1 in
    subst (λ (s : calls.Sent). FieldSends c.args.hub.now.limits c.send.new.job
    (first_edits c.args.job.now (c.args.index + 1)) (Ok s)) c.in-All.is
    (c.in_ok-send.ensures.sends (first_edits c.args.job.now (c.args.index + 1)) k.0 k.1)

pub returns-in-Ended-clause-keeps : goal.returns-in-Ended-clause-keeps
returns-in-Ended-clause-keeps g c =
    keeps_both c.args.hub.now.limits c.args.job.now c.edit_own.new.job c.send.new.job
    (edited_kept c.args.hub.now.limits c.args.job.now c.edit_own.new.job c.in_ok-edit_own.ensures.same)
    c.in_ok-send.ensures.keeps

pub returns-in-Ended-clause-goes : goal.returns-in-Ended-clause-goes
returns-in-Ended-clause-goes g c = λ h.
    let w = going_at c.args.hub.now.limits c.args.job.now (first_edits c.args.job.now c.args.index) c.args.goes_on h in
    let k = c.in_ok-edit_own.ensures.edits c.args.hub.now.limits w.0 w.1 in
    subst (λ (s : calls.Sent). FieldSends c.args.hub.now.limits c.send.new.job
    (first_edits c.args.job.now (c.args.index + 1)) (Ok s)) c.in-Ended.is
    (c.in_ok-send.ensures.sends (first_edits c.args.job.now (c.args.index + 1)) k.0 k.1)
