use Rattle.std.proofs.Common.{◌≡◌, ◌++◌, List, length, subst, sym, rules, take-append-drop}
use denote.Param.Send.{IsSend, sendable, param_send}
use Rattle.std.proofs.Crossing.{crosses}
use Rattle.hub_lock.proofs.HubCrosses.{hub_sync}
use Rattle.trial_threads.specs.declared.running.Running.{Running}
use Rattle.trial_threads.specs.Jobs.{AreRun, IsRun}
use Rattle.trial_threads.proofs.JobsCross.{running_send, all_five}
use Rattle.trial_threads.proofs.JobsListed.{pairs_both}
use Rattle.trial_threads.proofs.side_by_side.+fn-run_jobs-join_mut+arg2+fn-run_jobs-join_mut+arg3+run_jobs.Lts-run_jobs as lts
use Rattle.trial_threads.proofs.side_by_side.+fn-run_jobs-join_mut+arg2+fn-run_jobs-join_mut+arg3+run_jobs.Goals as goal

pub join_mut-requires-send-F : goal.join_mut-requires-send-F
join_mut-requires-send-F g t c κs within =
    param_send 1 (lts.arg-2-1 g.row.R g.row.G g.R.laws g.G.laws g.R.Threads-dict g.R.Wait-dict g.G.Gate-dict κs)
    (search (sendable, crosses, hub_sync, running_send, all_five) depth 40 fits 100000)

pub returns : goal.returns
returns g t c =
    let s = c.split_at_mut-front in
    let front : AreRun c.args.hub.now s.result.0.now c.front-1.given.0 = search rules in
    let back : AreRun c.args.hub.now s.result.1.now c.back-1.given.0 = search rules in
    let whole : s.result.0.now ++ s.result.1.now ≡ c.args.jobs.now = search (rules, take-append-drop) in
    subst (λ (l : List Running). AreRun c.args.hub.now l (c.front-1.given.0 ++ c.back-1.given.0)) whole
    (pairs_both (IsRun c.args.hub.now) s.result.0.now s.result.1.now c.front-1.given.0 c.back-1.given.0 front back)
