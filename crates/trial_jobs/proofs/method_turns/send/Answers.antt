use Rattle.std.proofs.Common.{ℕ, List, Ok, Err, refl, subst}
use Rattle.std.proofs.lemmas.Result.{err_from_is_err_and}
use Rattle.hub_calls.specs.Submitted.{entries_in, Submits}
use Rattle.hub_calls.proofs.PassesGrow.{same_peer}
use Rattle.trial_typing.proofs.FieldKept.{saw_reader}
use Rattle.trial_jobs.proofs.MethodGoesOn.{sends_ok, sends_stops}
use Rattle.trial_jobs.proofs.method_turns.send.Goals as goal

pub returns-in_err-answer-clause-keeps : goal.returns-in_err-answer-clause-keeps
returns-in_err-answer-clause-keeps g c =
    let e = c.in_err-answer.ensures in record {
      saw = saw_reader c.args.hub.now.limits c.args.job.now.reader c.args.job.now.writer
          c.submit_messages.new.pass e.pass e.saw;
      same = refl;
    }

pub returns-in_err-answer-clause-sends : goal.returns-in_err-answer-clause-sends
returns-in_err-answer-clause-sends g c = λ typist own waits quiet h.
    let p = err_from_is_err_and c.from_residual.result c.from_residual.ensures.1 in
    let e = c.in_err-answer.ensures in
    rw (p.1, p.2)
    (sends_stops c.args.hub.now.limits typist c.args.job.now c.submit_messages.new.pass own waits
    (same_peer c.args.job.now.reader c.submit_messages.new.pass e.pass) e.saw e.ended quiet h c.in_err-answer.field-0.0
    (subst (λ (b : List ℕ). Submits c.args.hub.now.limits c.args.job.now.reader c.submit_messages.new.pass
    (entries_in c.args.job.now.reader.peer b) (Err c.in_err-answer.field-0.0)) c.to_send.ensures e.made))

pub returns-clause-keeps : goal.returns-clause-keeps
returns-clause-keeps g c =
    let e = c.in_ok-answer.ensures in record {
      saw = saw_reader c.args.hub.now.limits c.args.job.now.reader c.args.job.now.writer
          c.submit_messages.new.pass e.pass e.saw;
      same = refl;
    }

pub returns-clause-sends : goal.returns-clause-sends
returns-clause-sends g c = λ typist own waits quiet h.
    let e = c.in_ok-answer.ensures in
    sends_ok c.args.hub.now.limits typist c.args.job.now c.submit_messages.new.pass own waits
    (same_peer c.args.job.now.reader c.submit_messages.new.pass e.pass) e.saw e.ended quiet h
    c.sent.new.self c.in_ok-answer.answer c.sent.ensures.now
    (subst (λ (b : List ℕ). Submits c.args.hub.now.limits c.args.job.now.reader c.submit_messages.new.pass
    (entries_in c.args.job.now.reader.peer b) (Ok c.in_ok-answer.answer)) c.to_send.ensures e.made)
