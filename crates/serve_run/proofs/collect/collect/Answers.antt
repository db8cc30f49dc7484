use Rattle.std.proofs.Common.{refl, sym, ap, subst, ◌≡◌, inr, ◌+◌, ◌<◌, ◌∙◌, ◌++◌, ◌∷◌, [], length, map, Some, append-nil, length-append, arith}
use Rattle.std.proofs.lemmas.List.{append_assoc, map-append}
use Rattle.turn_lock.specs.Pairs.{IsIn}
use Rattle.std.specs.List.{slice_get}
use Rattle.serve_jobs.specs.LinkTags.{done_tag, done_report}
use Rattle.serve_run.specs.LinkJobs.{job_reported}
use Rattle.serve_run.specs.Unserved.{pushed}
use Rattle.serve_run.specs.Reported.{AreTaken}
use Rattle.serve_run.specs.Statuses.{worse, worst}
use Rattle.serve_run.specs.declared.stop.Trouble.TheVariants as troubles
use Rattle.serve_run.proofs.LawsKept.{seen_again, seen_through, laws_kept, laws_more, taken_more, worst_more}
use Rattle.serve_run.proofs.NumbersTaken.{pushed_more}
use Rattle.serve_run.proofs.ResultsInOrder.{reported_more, before_end}
use Rattle.serve_run.proofs.collect.collect.Goals as goal
use Rattle.serve_run.proofs.collect.collect.Goals.{After-take_result}
use Rattle.serve_run.proofs.collect.collect.Goals.at

grew : (g : _) (c : After-take_result g) → length (g.W.Spawner.reports c.next_done.new.self)
    ≡ length (g.W.Spawner.reports c.loop-done.spawner) + 1
grew g c = ap length c.in-Some.ensures.given
    ∙ length-append (g.W.Spawner.reports c.loop-done.spawner) (done_report c.in-Some.done ∷ [])

left : (g : _) (c : After-take_result g) → length (g.W.Spawner.reports c.loop-done.spawner)
    < length (g.W.Spawner.started c.loop-done.spawner)
left g c = before_end (g.W.Spawner.started c.loop-done.spawner) (length (g.W.Spawner.reports c.loop-done.spawner)) _
    c.in-Some.ensures.next

next_is : (g : _) (c : After-take_result g) → slice_get (g.W.Spawner.started c.args.spawner.now)
    (length (g.W.Spawner.reports c.args.spawner.now) + length c.loop-done.invariant.given.0)
    ≡ Some (done_tag c.in-Some.done)
next_is g c =
    let i = c.loop-done.invariant in
    let many = ap length i.given.1 ∙ length-append (g.W.Spawner.reports c.args.spawner.now) i.given.0 in
    ap (slice_get (g.W.Spawner.started c.args.spawner.now)) (sym many)
    ∙ (ap (λ tags. slice_get tags (length (g.W.Spawner.reports c.loop-done.spawner))) (sym i.started)
    ∙ c.in-Some.ensures.next)

pub loop-done-init : goal.loop-done-init
loop-done-init g c = record {
  root_is = c.requires.root;
  next = refl;
  mine = seen_again c.args.root.now.seen 0;
  settled = λ n out. (out, seen_again c.args.root.now.seen n);
  balance = c.requires.balance;
  given = ([], sym (append-nil (g.W.Spawner.reports c.args.spawner.now)), tt, tt, refl, refl, refl);
  started = refl;
  before = refl;
  never_falls = omega arith;
  no_refusal = refl;
}

pub take_result-requires : goal.take_result-requires
take_result-requires g c =
    let i = c.loop-done.invariant in
    let many = ap length i.given.1 ∙ length-append (g.W.Spawner.reports c.args.spawner.now) i.given.0 in record {
      root = i.root_is;
      own = c.requires.ours (length (g.W.Spawner.reports c.loop-done.spawner)) (done_tag c.in-Some.done) (omega arith)
          (ap (λ tags. slice_get tags (length (g.W.Spawner.reports c.loop-done.spawner))) (sym i.started)
          ∙ c.in-Some.ensures.next);
    }

pub loop-done-smaller : goal.loop-done-smaller
loop-done-smaller g c =
    let a = grew g (at.loop-done-smaller g c).After-take_result in
    let b = left g (at.loop-done-smaller g c).After-take_result in
    let e = ap length c.next_done.ensures.started in omega arith

pub loop-done-preserved : goal.loop-done-preserved
loop-done-preserved g c =
    let i = c.loop-done.invariant in
    let e = c.take_result.ensures in
    let s = c.in-Some.ensures in
    let a = grew g (at.loop-done-preserved g c).After-take_result in
    let b = left g (at.loop-done-preserved g c).After-take_result in
    let same = ap length i.started in
    let before = g.W.Spawner.reports c.args.spawner.now in
    let many = ap length i.given.1 ∙ length-append before i.given.0 in
    let report = done_report c.in-Some.done in record {
      root_is = e.back.root_is;
      next = e.back.next ∙ i.next;
      mine = seen_through _ c.loop-done.root.seen _ 0 e.back.mine i.mine;
      settled = λ n out. (
        subst (IsIn n) (sym e.back.taken) (inr (i.settled n out).0),
        seen_through _ c.loop-done.root.seen _ n (e.back.settled n (i.settled n out).0) (i.settled n out).1,
      );
      balance = (let x = e.back.out in let y = i.balance in omega arith);
      given = (
        i.given.0 ++ report ∷ [],
        s.given ∙ (ap (λ rs. rs ++ report ∷ []) i.given.1 ∙ append_assoc before i.given.0 (report ∷ [])),
        laws_more _ _ i.given.0 report
            (laws_kept _ c.loop-done.root.seen _ c.loop-done.root.taken i.given.0 e.back.settled i.given.3 i.given.2)
            e.law,
        subst (λ taken. AreTaken taken (i.given.0 ++ report ∷ [])) (sym e.back.taken)
            (taken_more c.loop-done.root.taken i.given.0 report i.given.3),
        c.and-trouble.ensures ∙ (ap (λ t. worse t c.trouble_of.result) i.given.4
            ∙ (ap (worse (worst i.given.0)) c.trouble_of.ensures ∙ sym (worst_more troubles.None i.given.0 report))),
        reported_more (g.W.Spawner.started c.args.spawner.now) (length before) i.given.0 report
            (done_tag c.in-Some.done)
            i.given.5 (next_is g (at.loop-done-preserved g c).After-take_result) s.report,
        e.back.taken ∙ (ap (λ taken. report.number ∷ taken) i.given.6
            ∙ (sym (pushed_more (map job_reported i.given.0) (job_reported report) c.args.root.now.taken)
            ∙ ap (λ jobs. pushed jobs c.args.root.now.taken) (sym (map-append job_reported i.given.0 (report ∷ []))))),
      );
      started = c.next_done.ensures.started ∙ i.started;
      before = c.next_done.ensures.before ∙ i.before;
      never_falls = (let x = i.never_falls in let y = c.next_done.ensures.never_falls in omega arith);
      no_refusal = c.next_done.ensures.no_refusal ∙ i.no_refusal;
    }
