use Rattle.std.proofs.Common.{List, ◌<◌, ◌≤◌, ◌+◌, length, Err, sym, subst, rules, arith}
use Rattle.std.proofs.lemmas.Result.{err_from_is_err_and}
use Rattle.trial_script.specs.declared.action.FieldEdit.{FieldEdit}
use Rattle.trial_typing.specs.FieldLaw.{first_edits}
use Rattle.trial_typing.proofs.FieldKept.{keeps_none, keeps_both, of_kept}
use Rattle.trial_typing.proofs.FieldDone.{ready_of, ready_going, rest_at, next_at, next_goes, runs_stops, runs_done, plays_done}
use Rattle.trial_typing.proofs.field_job.play_field.Goals as goal

pub loop-index-init : goal.loop-index-init
loop-index-init g c = record {
  of = ready_of c.args.hub.now c.args.job.now c.requires.ready;
  keeps = keeps_none c.args.hub.now.limits c.args.job.now;
  goes = ready_going c.args.hub.now c.args.job.now c.requires.ready;
  rests = λ least. absurd (omega (arith, least));
}

pub make_edit-requires-clause-of : goal.make_edit-requires-clause-of
make_edit-requires-clause-of g c = c.loop-index.invariant.of

pub make_edit-requires-clause-within : goal.make_edit-requires-clause-within
make_edit-requires-clause-within g c =
    let lt : c.loop-index.index < length c.args.job.now.edits = search rules in
    subst (λ (l : List FieldEdit). c.loop-index.index < length l) (sym c.loop-index.invariant.keeps.same) lt

pub returns-in_err-goes_on-clause-runs : goal.returns-in_err-goes_on-clause-runs
returns-in_err-goes_on-clause-runs g c =
    let p = err_from_is_err_and c.from_residual.result c.from_residual.ensures.1 in
    let i = c.loop-index.invariant in
    let e = c.in_err-goes_on.ensures in
    rw (p.1, p.2)
    (runs_stops c.args.hub.now.limits c.args.job.now c.make_edit.new.job (c.loop-index.index + 1)
    c.in_err-goes_on.field-0.0
    (keeps_both c.args.hub.now.limits c.args.job.now c.loop-index.job c.make_edit.new.job i.keeps e.keeps)
    (next_goes c.args.hub.now.limits c.args.job.now c.loop-index.job c.make_edit.new.job c.loop-index.index
    c.loop-index.goes_on (Err c.in_err-goes_on.field-0.0)
    i.keeps.same e.goes i.goes))

pub answer_all-requires : goal.answer_all-requires
answer_all-requires g c = record {
  of = of_kept c.args.hub.now c.loop-index.job c.make_edit.new.job c.loop-index.invariant.of
      c.in_ok-goes_on.ensures.keeps;
}

pub returns-in_err-goes_on-2-clause-runs : goal.returns-in_err-goes_on-2-clause-runs
returns-in_err-goes_on-2-clause-runs g c =
    let p = err_from_is_err_and c.from_residual-in_err-goes_on-2.result c.from_residual-in_err-goes_on-2.ensures.1 in
    let i = c.loop-index.invariant in
    let e = c.in_ok-goes_on.ensures in
    let more = c.in_err-goes_on-2.ensures in
    rw (p.1, p.2)
    (runs_stops c.args.hub.now.limits c.args.job.now c.answer_all.new.job (c.loop-index.index + 1)
    c.in_err-goes_on-2.field-0.0
    (keeps_both c.args.hub.now.limits c.args.job.now c.make_edit.new.job c.answer_all.new.job
    (keeps_both c.args.hub.now.limits c.args.job.now c.loop-index.job c.make_edit.new.job i.keeps e.keeps) more.keeps)
    (more.rests (first_edits c.args.job.now (c.loop-index.index + 1))
    (next_at c.args.hub.now.limits c.args.job.now c.loop-index.job c.make_edit.new.job c.loop-index.index
    c.loop-index.goes_on _
    i.keeps.same e.goes i.goes)))

pub loop-index-preserved : goal.loop-index-preserved
loop-index-preserved g c =
    let i = c.loop-index.invariant in
    let e = c.in_ok-goes_on.ensures in
    let more = c.in_ok-goes_on-2.ensures in
    let kept = keeps_both c.args.hub.now.limits c.args.job.now c.make_edit.new.job c.answer_all.new.job
    (keeps_both c.args.hub.now.limits c.args.job.now c.loop-index.job c.make_edit.new.job i.keeps e.keeps) more.keeps in
    let rest = more.rests (first_edits c.args.job.now (c.loop-index.index + 1))
    (next_at c.args.hub.now.limits c.args.job.now c.loop-index.job c.make_edit.new.job c.loop-index.index
    c.loop-index.goes_on _ i.keeps.same e.goes i.goes) in record {
      of = of_kept c.args.hub.now c.make_edit.new.job c.answer_all.new.job
          (of_kept c.args.hub.now c.loop-index.job c.make_edit.new.job i.of e.keeps) more.keeps;
      keeps = kept;
      goes = rest_at c.args.hub.now.limits c.answer_all.new.job (first_edits c.args.job.now (c.loop-index.index + 1)) _
          rest;
      rests = λ least. rest;
    }

pub returns-clause-runs : goal.returns-clause-runs
returns-clause-runs g c =
    let i = c.loop-index.invariant in
    let all : length c.args.job.now.edits ≤ c.loop-index.index = search rules in
    let least : c.loop-index.index ≤ length c.args.job.now.edits = search rules in
    runs_done c.args.hub.now.limits c.args.job.now c.loop-index.job c.loop-index.index c.loop-index.goes_on tt all least
    i.keeps i.goes i.rests

pub returns-clause-goes : goal.returns-clause-goes
returns-clause-goes g c =
    let i = c.loop-index.invariant in
    let all : length c.args.job.now.edits ≤ c.loop-index.index = search rules in
    plays_done c.args.hub.now.limits c.args.job.now c.loop-index.job c.loop-index.index c.loop-index.goes_on all
    i.keeps i.goes i.rests
