use Rattle.std.proofs.Common.{◌≡◌, ◌++◌, ◌∷◌, [], ℕ, List, Result, Ok, Err, ap, subst, sym}
use Rattle.std.specs.Prelude.{OnOk}
use Rattle.hub_lock.specs.Passes.{PassSeat}
use Rattle.trial_jobs.specs.declared.job.TrialJob.TheVariants as jobs
use Rattle.trial_threads.specs.declared.running.Running.{Running}
use Rattle.trial_threads.specs.Jobs.{idle_job}
use Rattle.trial_threads.specs.Peers.{HaveJoined}
use Rattle.trial_threads.proofs.PeersBegin.{shell_joined}
use Rattle.trial_threads.proofs.begin.put_shell.Goals as goal

ok_then : {E : Type 0} (r : Result (Unit {0}) E) (P Q : Type 0) → (P → Q) → OnOk r P → OnOk r Q
ok_then (Ok x) P Q f h = f h
ok_then (Err e) P Q f h = tt

pub returns-clause-joined : goal.returns-clause-joined
returns-clause-joined c =
    let before = c.args.jobs.now.items in
    let after = before ++ idle_job (jobs.Shell c.begin_shell-shell.result) ∷ [] in
    ok_then c.put.result (c.put.new.jobs.items ≡ after)
    ((n : ℕ) → HaveJoined c.args.root.now n before → HaveJoined c.begin_shell-shell.new.root n c.put.new.jobs.items)
    (λ is n h. subst (λ (rs : List Running). HaveJoined c.begin_shell-shell.new.root n rs) (sym is)
    (shell_joined c.args.root.now c.begin_shell-shell.new.root n before c.begin_shell-shell.result c.begin_shell-shell.ensures.left h))
    c.put.ensures.ok

pub returns-clause-named : goal.returns-clause-named
returns-clause-named c = ap (λ (s : PassSeat). s.named) c.begin_shell-shell.ensures.left
