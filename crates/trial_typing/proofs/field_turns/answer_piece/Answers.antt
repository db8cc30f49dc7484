use Rattle.std.proofs.Common.{Ok, subst}
use Rattle.std.proofs.lemmas.Result.{err_from_is_err_and}
use Rattle.hub_calls.specs.declared.submit.Sent as calls
use Rattle.trial_typing.specs.FieldGoing.{FieldSends}
use Rattle.trial_typing.proofs.FieldKept.{heard_kept, keeps_both}
use Rattle.trial_typing.proofs.FieldGoesOn.{heard_bytes, heard_part}
use Rattle.trial_typing.proofs.field_turns.answer_piece.Goals as goal

pub returns-in_err-hear-clause-keeps : goal.returns-in_err-hear-clause-keeps
returns-in_err-hear-clause-keeps g c =
    heard_kept c.args.hub.now.limits c.args.job.now c.hear.new.client c.hear.new.log

pub returns-in_err-hear-clause-turns : goal.returns-in_err-hear-clause-turns
returns-in_err-hear-clause-turns g c = λ own h.
    let p = err_from_is_err_and c.from_residual.result c.from_residual.ensures.1 in
    rw (p.1, p.2)
    (heard_part c.args.hub.now.limits c.args.job.now c.hear.new.client c.hear.new.log own c.args.piece.now
    c.in_err-hear.ensures.err h)

pub send-requires : goal.send-requires
send-requires g c =
    let o = c.requires.of in record { of = record { reads = o.reads; writes = o.writes; one_peer = o.one_peer } }

pub returns-in_err-send-clause-keeps : goal.returns-in_err-send-clause-keeps
returns-in_err-send-clause-keeps g c =
    keeps_both c.args.hub.now.limits c.args.job.now
    (record c.args.job.now { client = c.hear.new.client; log = c.hear.new.log }) c.send.new.job
    (heard_kept c.args.hub.now.limits c.args.job.now c.hear.new.client c.hear.new.log) c.in_err-send.ensures.keeps

pub returns-in_err-send-clause-turns : goal.returns-in_err-send-clause-turns
returns-in_err-send-clause-turns g c = λ own h.
    let p = err_from_is_err_and c.from_residual-in_err-send.result c.from_residual-in_err-send.ensures.1 in
    let w = heard_bytes c.args.hub.now.limits c.args.job.now c.hear.new.client c.hear.new.log own c.args.piece.now
    c.in_ok-hear.ensures.ok h in
    rw (p.1, p.2) (c.in_err-send.ensures.sends own w.0 w.1)

pub returns-in-All-clause-keeps : goal.returns-in-All-clause-keeps
returns-in-All-clause-keeps g c =
    keeps_both c.args.hub.now.limits c.args.job.now
    (record c.args.job.now { client = c.hear.new.client; log = c.hear.new.log }) c.send.new.job
    (heard_kept c.args.hub.now.limits c.args.job.now c.hear.new.client c.hear.new.log) c.in_ok-send.ensures.keeps

pub returns-in-Ended-clause-keeps : goal.returns-in-Ended-clause-keeps
returns-in-Ended-clause-keeps g c =
    keeps_both c.args.hub.now.limits c.args.job.now
    (record c.args.job.now { client = c.hear.new.client; log = c.hear.new.log }) c.send.new.job
    (heard_kept c.args.hub.now.limits c.args.job.now c.hear.new.client c.hear.new.log) c.in_ok-send.ensures.keeps

pub returns-in-All-clause-turns : goal.returns-in-All-clause-turns
returns-in-All-clause-turns g c = λ own h.
    let w = heard_bytes c.args.hub.now.limits c.args.job.now c.hear.new.client c.hear.new.log own c.args.piece.now
    c.in_ok-hear.ensures.ok h in
    subst (λ (s : calls.Sent). FieldSends c.args.hub.now.limits c.send.new.job own (Ok s)) c.in-All.is
    (c.in_ok-send.ensures.sends own w.0 w.1)

pub returns-in-Ended-clause-turns : goal.returns-in-Ended-clause-turns
returns-in-Ended-clause-turns g c = λ own h.
    let w = heard_bytes c.args.hub.now.limits c.args.job.now c.hear.new.client c.hear.new.log own c.args.piece.now
    c.in_ok-hear.ensures.ok h in
    subst (λ (s : calls.Sent). FieldSends c.args.hub.now.limits c.send.new.job own (Ok s)) c.in-Ended.is
    (c.in_ok-send.ensures.sends own w.0 w.1)
