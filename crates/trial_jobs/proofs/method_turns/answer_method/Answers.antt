use Rattle.std.proofs.Common.{Ok, Err, subst, arith}
use Rattle.std.proofs.lemmas.Result.{err_from_is_err_and}
use Rattle.hub_calls.specs.declared.take.Piece as taken
use Rattle.hub_calls.specs.Taken.{TakesPiece}
use Rattle.trial_typing.proofs.FieldKept.{made_takes}
use Rattle.trial_jobs.proofs.MethodKept.{took_kept, keeps_both, of_kept}
use Rattle.trial_jobs.proofs.MethodGoesOn.{took_bytes, took_none, took_closed, took_stops}
use Rattle.trial_jobs.proofs.method_turns.answer_method.Goals as goal

pub returns-in_err-count-clause-keeps : goal.returns-in_err-count-clause-keeps
returns-in_err-count-clause-keeps g c =
    took_kept c.args.hub.now.limits c.args.job.now c.take_piece.new.pass c.in_err-count.ensures.pass
    c.in_err-count.ensures.saw
    (made_takes c.args.hub.now.limits c.args.job.now.writer c.take_piece.new.pass c.take_piece.new.bytes
    (Err c.in_err-count.field-0.0) c.in_err-count.ensures.takes)

pub returns-in_err-count-clause-turns : goal.returns-in_err-count-clause-turns
returns-in_err-count-clause-turns g c = λ typist own h.
    let p = err_from_is_err_and c.from_residual.result c.from_residual.ensures.1 in
    rw (p.1, p.2)
    (took_stops c.args.hub.now.limits typist c.args.job.now c.take_piece.new.pass own c.take_piece.new.bytes
    c.in_err-count.field-0.0 c.in_err-count.ensures.takes h)

pub slice_bounds-bytes-end : goal.slice_bounds-bytes-end
slice_bounds-bytes-end g c =
    let t = subst (λ (p : taken.Piece). TakesPiece c.args.hub.now.limits c.args.job.now.writer
    c.take_piece.new.pass c.take_piece.new.bytes (Ok p)) c.in-Bytes.is c.in_ok-count.ensures.takes in
    omega (arith, t.few.0, t.few.1)

pub answer_piece-requires : goal.answer_piece-requires
answer_piece-requires g c = record {
  of = of_kept c.args.hub.now c.args.job.now (record c.args.job.now { writer = c.take_piece.new.pass }) c.requires.of
      (took_kept c.args.hub.now.limits c.args.job.now c.take_piece.new.pass c.in_ok-count.ensures.pass
      c.in_ok-count.ensures.saw
      (made_takes c.args.hub.now.limits c.args.job.now.writer c.take_piece.new.pass c.take_piece.new.bytes
      (Ok c.in_ok-count.field-0) c.in_ok-count.ensures.takes));
}

pub returns-in-Bytes-clause-keeps : goal.returns-in-Bytes-clause-keeps
returns-in-Bytes-clause-keeps g c =
    keeps_both c.args.hub.now.limits c.args.job.now (record c.args.job.now { writer = c.take_piece.new.pass })
    c.answer_piece.new.job
    (took_kept c.args.hub.now.limits c.args.job.now c.take_piece.new.pass c.in_ok-count.ensures.pass
    c.in_ok-count.ensures.saw
    (made_takes c.args.hub.now.limits c.args.job.now.writer c.take_piece.new.pass c.take_piece.new.bytes
    (Ok c.in_ok-count.field-0) c.in_ok-count.ensures.takes))
    c.answer_piece.ensures.keeps

pub returns-in-Bytes-clause-turns : goal.returns-in-Bytes-clause-turns
returns-in-Bytes-clause-turns g c = λ typist own h.
    c.answer_piece.ensures.turns typist own
    (took_bytes c.args.hub.now.limits typist c.args.job.now c.take_piece.new.pass own c.take_piece.new.bytes
    c.in-Bytes.count
    (subst (λ (p : taken.Piece). TakesPiece c.args.hub.now.limits c.args.job.now.writer
    c.take_piece.new.pass c.take_piece.new.bytes (Ok p)) c.in-Bytes.is c.in_ok-count.ensures.takes) h)

pub returns-in-Empty-clause-keeps : goal.returns-in-Empty-clause-keeps
returns-in-Empty-clause-keeps g c =
    took_kept c.args.hub.now.limits c.args.job.now c.take_piece.new.pass c.in_ok-count.ensures.pass
    c.in_ok-count.ensures.saw
    (made_takes c.args.hub.now.limits c.args.job.now.writer c.take_piece.new.pass c.take_piece.new.bytes
    (Ok c.in_ok-count.field-0) c.in_ok-count.ensures.takes)

pub returns-in-Empty-clause-turns : goal.returns-in-Empty-clause-turns
returns-in-Empty-clause-turns g c = λ typist own h.
    took_none c.args.hub.now.limits typist c.args.job.now c.take_piece.new.pass own c.take_piece.new.bytes
    (subst (λ (p : taken.Piece). TakesPiece c.args.hub.now.limits c.args.job.now.writer
    c.take_piece.new.pass c.take_piece.new.bytes (Ok p)) c.in-Empty.is c.in_ok-count.ensures.takes) h

pub returns-in-Closed-clause-keeps : goal.returns-in-Closed-clause-keeps
returns-in-Closed-clause-keeps g c =
    took_kept c.args.hub.now.limits c.args.job.now c.take_piece.new.pass c.in_ok-count.ensures.pass
    c.in_ok-count.ensures.saw
    (made_takes c.args.hub.now.limits c.args.job.now.writer c.take_piece.new.pass c.take_piece.new.bytes
    (Ok c.in_ok-count.field-0) c.in_ok-count.ensures.takes)

pub returns-in-Closed-clause-turns : goal.returns-in-Closed-clause-turns
returns-in-Closed-clause-turns g c = λ typist own h.
    took_closed c.args.hub.now.limits typist c.args.job.now c.take_piece.new.pass own c.take_piece.new.bytes
    (subst (λ (p : taken.Piece). TakesPiece c.args.hub.now.limits c.args.job.now.writer
    c.take_piece.new.pass c.take_piece.new.bytes (Ok p)) c.in-Closed.is c.in_ok-count.ensures.takes) h
