use Rattle.std.proofs.Common.{Bool, ◌≡◌, ◌≤◌, ◌+◌, true, false, subst, rules, arith}
use Rattle.std.proofs.lemmas.Result.{err_from_is_err_and}
use Rattle.trial_jobs.specs.MethodLaw.{rounds, first_batches, typist_in}
use Rattle.trial_jobs.specs.MethodGoing.{IsMethodAt}
use Rattle.trial_jobs.proofs.MethodKept.{keeps_none, keeps_both, of_kept}
use Rattle.trial_jobs.proofs.MethodGoesOn.{busy}
use Rattle.trial_jobs.proofs.MethodDone.{ready_of, ready_going, next_at, next_stops, runs_done, runs_over, runs_stops, plays_done, plays_over}
use Rattle.trial_jobs.proofs.method_job.play_method.Goals as goal

pub loop-round-init : goal.loop-round-init
loop-round-init g c = record {
  of = ready_of c.args.hub.now c.args.job.now c.requires.ready;
  keeps = keeps_none c.args.hub.now.limits c.args.job.now;
  goes = ready_going c.args.hub.now c.args.job.now c.requires.ready;
  rests = λ least. absurd (omega (arith, least));
}

pub answer_all-requires : goal.answer_all-requires
answer_all-requires g c = record { of = c.loop-round.invariant.of }

pub returns-in_err-still_here-clause-runs : goal.returns-in_err-still_here-clause-runs
returns-in_err-still_here-clause-runs g c =
    let p = err_from_is_err_and c.from_residual.result c.from_residual.ensures.1 in
    let limits = c.args.hub.now.limits in
    let before = c.args.job.now in
    let i = c.loop-round.invariant in
    let e = c.in_err-still_here.ensures in
    let kept = keeps_both limits before c.loop-round.job c.answer_all.new.job i.keeps e.keeps in
    let few : c.loop-round.round ≤ rounds = search rules in
    rw (p.1, p.2)
    (record {
      saw = kept.saw;
      same = kept.same;
      ends = runs_stops limits (typist_in before) before c.answer_all.new.job c.loop-round.round
          c.in_err-still_here.field-0.0 few kept.same
          (e.goes (typist_in before) (first_batches before c.loop-round.round) i.goes);
    })

pub returns-then-not-still_here-clause-runs : goal.returns-then-not-still_here-clause-runs
returns-then-not-still_here-clause-runs g c =
    let limits = c.args.hub.now.limits in
    let before = c.args.job.now in
    let i = c.loop-round.invariant in
    let e = c.in_ok-still_here.ensures in
    let kept = keeps_both limits before c.loop-round.job c.answer_all.new.job i.keeps e.keeps in
    let few : c.loop-round.round ≤ rounds = search rules in
    let over : c.in_ok-still_here.still_here ≡ false = search rules in
    record {
      saw = kept.saw;
      same = kept.same;
      ends = runs_over limits (typist_in before) before c.answer_all.new.job c.loop-round.round few kept.same
          (subst
          (λ (b : Bool). IsMethodAt limits (typist_in before) c.answer_all.new.job
          (first_batches before c.loop-round.round) true b)
          over (e.goes (typist_in before) (first_batches before c.loop-round.round) i.goes));
    }

pub make_batch-requires : goal.make_batch-requires
make_batch-requires g c = record {
  of = of_kept c.args.hub.now c.loop-round.job c.answer_all.new.job c.loop-round.invariant.of
      c.in_ok-still_here.ensures.keeps;
}

pub returns-in_err-goes_on-clause-runs : goal.returns-in_err-goes_on-clause-runs
returns-in_err-goes_on-clause-runs g c =
    let p = err_from_is_err_and c.from_residual-in_err-goes_on.result c.from_residual-in_err-goes_on.ensures.1 in
    let limits = c.args.hub.now.limits in
    let before = c.args.job.now in
    let mid = c.answer_all.new.job in
    let i = c.loop-round.invariant in
    let e = c.in_ok-still_here.ensures in
    let m = c.in_err-goes_on.ensures in
    let half = keeps_both limits before c.loop-round.job mid i.keeps e.keeps in
    let kept = keeps_both limits before mid c.make_batch.new.job half m.keeps in
    let few : c.loop-round.round + 1 ≤ rounds = search rules in
    let here : c.in_ok-still_here.still_here ≡ true = search rules in
    rw (p.1, p.2)
    (record {
      saw = kept.saw;
      same = kept.same;
      ends = runs_stops limits (typist_in before) before c.make_batch.new.job (c.loop-round.round + 1)
          c.in_err-goes_on.field-0.0 few kept.same
          (next_stops limits (typist_in before) before mid c.make_batch.new.job c.loop-round.round
          c.in_err-goes_on.field-0.0 half.same (m.goes (typist_in before) true)
          (subst
          (λ (b : Bool). IsMethodAt limits (typist_in before) mid (first_batches before c.loop-round.round) true b) here
          (e.goes (typist_in before) (first_batches before c.loop-round.round) i.goes)));
    })

pub returns-then-not-goes_on-clause-runs : goal.returns-then-not-goes_on-clause-runs
returns-then-not-goes_on-clause-runs g c =
    let limits = c.args.hub.now.limits in
    let before = c.args.job.now in
    let mid = c.answer_all.new.job in
    let i = c.loop-round.invariant in
    let e = c.in_ok-still_here.ensures in
    let m = c.in_ok-goes_on.ensures in
    let half = keeps_both limits before c.loop-round.job mid i.keeps e.keeps in
    let kept = keeps_both limits before mid c.make_batch.new.job half m.keeps in
    let few : c.loop-round.round + 1 ≤ rounds = search rules in
    let here : c.in_ok-still_here.still_here ≡ true = search rules in
    let over : c.in_ok-goes_on.goes_on ≡ false = search rules in
    record {
      saw = kept.saw;
      same = kept.same;
      ends = runs_over limits (typist_in before) before c.make_batch.new.job (c.loop-round.round + 1) few kept.same
          (subst
          (λ (b : Bool). IsMethodAt limits (typist_in before) c.make_batch.new.job
          (first_batches before (c.loop-round.round + 1)) true b)
          over
          (next_at limits (typist_in before) before mid c.make_batch.new.job c.loop-round.round c.in_ok-goes_on.goes_on
          half.same (m.goes (typist_in before) true)
          (subst
          (λ (b : Bool). IsMethodAt limits (typist_in before) mid (first_batches before c.loop-round.round) true b) here
          (e.goes (typist_in before) (first_batches before c.loop-round.round) i.goes))));
    }

pub loop-round-preserved : goal.loop-round-preserved
loop-round-preserved g c =
    let limits = c.args.hub.now.limits in
    let before = c.args.job.now in
    let mid = c.answer_all.new.job in
    let i = c.loop-round.invariant in
    let e = c.in_ok-still_here.ensures in
    let m = c.in_ok-goes_on.ensures in
    let half = keeps_both limits before c.loop-round.job mid i.keeps e.keeps in
    let here : c.in_ok-still_here.still_here ≡ true = search rules in
    let on : c.in_ok-goes_on.goes_on ≡ true = search rules in
    let next = subst
    (λ (b : Bool). IsMethodAt limits (typist_in before) c.make_batch.new.job
    (first_batches before (c.loop-round.round + 1)) true b)
    on
    (next_at limits (typist_in before) before mid c.make_batch.new.job c.loop-round.round c.in_ok-goes_on.goes_on
    half.same (m.goes (typist_in before) true)
    (subst
    (λ (b : Bool). IsMethodAt limits (typist_in before) mid (first_batches before c.loop-round.round) true b) here
    (e.goes (typist_in before) (first_batches before c.loop-round.round) i.goes))) in
    record {
      of = of_kept c.args.hub.now mid c.make_batch.new.job
          (of_kept c.args.hub.now c.loop-round.job mid i.of e.keeps) m.keeps;
      keeps = keeps_both limits before mid c.make_batch.new.job half m.keeps;
      goes = busy limits (typist_in before) c.make_batch.new.job (first_batches before (c.loop-round.round + 1)) next;
      rests = λ least. next;
    }

pub returns-clause-runs : goal.returns-clause-runs
returns-clause-runs g c =
    let limits = c.args.hub.now.limits in
    let i = c.loop-round.invariant in
    let most : rounds ≤ c.loop-round.round = search rules in
    let least : c.loop-round.round ≤ rounds = search rules in
    record {
      saw = i.keeps.saw;
      same = i.keeps.same;
      ends = runs_done limits (typist_in c.args.job.now) c.args.job.now c.loop-round.job c.loop-round.round most least
          i.keeps.same (i.rests (omega (arith, most)));
    }

pub returns-clause-goes : goal.returns-clause-goes
returns-clause-goes g c =
    let limits = c.args.hub.now.limits in
    let i = c.loop-round.invariant in
    let most : rounds ≤ c.loop-round.round = search rules in
    let least : c.loop-round.round ≤ rounds = search rules in
    plays_done limits (typist_in c.args.job.now) c.args.job.now c.loop-round.job c.loop-round.round most least
    i.keeps.same (i.rests (omega (arith, most)))

pub returns-then-not-still_here-clause-goes : goal.returns-then-not-still_here-clause-goes
returns-then-not-still_here-clause-goes g c =
    let limits = c.args.hub.now.limits in
    let before = c.args.job.now in
    let i = c.loop-round.invariant in
    let e = c.in_ok-still_here.ensures in
    let kept = keeps_both limits before c.loop-round.job c.answer_all.new.job i.keeps e.keeps in
    let few : c.loop-round.round ≤ rounds = search rules in
    let over : c.in_ok-still_here.still_here ≡ false = search rules in
    plays_over limits (typist_in before) before c.answer_all.new.job c.loop-round.round few kept.same
    (subst
    (λ (b : Bool). IsMethodAt limits (typist_in before) c.answer_all.new.job
    (first_batches before c.loop-round.round) true b)
    over (e.goes (typist_in before) (first_batches before c.loop-round.round) i.goes))

pub returns-then-not-goes_on-clause-goes : goal.returns-then-not-goes_on-clause-goes
returns-then-not-goes_on-clause-goes g c =
    let limits = c.args.hub.now.limits in
    let before = c.args.job.now in
    let mid = c.answer_all.new.job in
    let i = c.loop-round.invariant in
    let e = c.in_ok-still_here.ensures in
    let m = c.in_ok-goes_on.ensures in
    let half = keeps_both limits before c.loop-round.job mid i.keeps e.keeps in
    let kept = keeps_both limits before mid c.make_batch.new.job half m.keeps in
    let few : c.loop-round.round + 1 ≤ rounds = search rules in
    let here : c.in_ok-still_here.still_here ≡ true = search rules in
    let over : c.in_ok-goes_on.goes_on ≡ false = search rules in
    plays_over limits (typist_in before) before c.make_batch.new.job (c.loop-round.round + 1) few kept.same
    (subst
    (λ (b : Bool). IsMethodAt limits (typist_in before) c.make_batch.new.job
    (first_batches before (c.loop-round.round + 1)) true b)
    over
    (next_at limits (typist_in before) before mid c.make_batch.new.job c.loop-round.round c.in_ok-goes_on.goes_on
    half.same (m.goes (typist_in before) true)
    (subst
    (λ (b : Bool). IsMethodAt limits (typist_in before) mid (first_batches before c.loop-round.round) true b) here
    (e.goes (typist_in before) (first_batches before c.loop-round.round) i.goes))))
