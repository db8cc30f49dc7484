use Rattle.std.proofs.Common.{◌≡◌, ◌+◌, ◌-◌, ◌≤◌, ◌++◌, ℕ, List, length, map, take, drop}
use Rattle.turn_lock.specs.Pairs.{HasSeen, IsIn}
use Rattle.serve_jobs.specs.Tags.{Report}
use Rattle.serve_run.specs.LinkJobs.{job_reported, job_tagged}
use Rattle.serve_run.specs.Reported.{HaveLaws, AreTaken}
use Rattle.serve_run.specs.Started.{IsRootOf}
use Rattle.serve_run.specs.Statuses.{worst}
use Rattle.serve_run.specs.Unserved.{pushed}
use Rattle.serve_run.proofs.collect.collect.Given as goal

abbrev pub invariant-loop-done : goal.invariant-loop-done
invariant-loop-done g l = record {
  root_is : IsRootOf l.hub l.root;
  next : l.root.next ≡ l.initial.root.next;
  mine : HasSeen l.root.seen 0 l.initial.root.seen;
  settled : (n : ℕ) → IsIn n l.initial.root.taken → IsIn n l.root.taken × HasSeen l.root.seen n l.initial.root.seen;
  balance : l.root.out + length (g.W.Spawner.reports l.spawner)
      ≡ length (g.W.Spawner.started l.initial.spawner) + 1;
  given : (given : List Report)
      × (g.W.Spawner.reports l.spawner ≡ g.W.Spawner.reports l.initial.spawner ++ given)
      × HaveLaws l.hub.limits l.root.seen given × AreTaken l.root.taken given × (l.trouble ≡ worst given)
      × (map job_reported given ≡ map job_tagged (take (length given)
      (drop (length (g.W.Spawner.reports l.initial.spawner)) (g.W.Spawner.started l.initial.spawner))))
      × (l.root.taken ≡ pushed (map job_reported given) l.initial.root.taken);
  started : g.W.Spawner.started l.spawner ≡ g.W.Spawner.started l.initial.spawner;
  before : g.W.Spawner.before_start l.spawner ≡ g.W.Spawner.before_start l.initial.spawner;
  never_falls : g.W.Spawner.refusal_count l.initial.spawner ≤ g.W.Spawner.refusal_count l.spawner;
  no_refusal : g.W.Spawner.refusal_count l.spawner ≡ g.W.Spawner.refusal_count l.initial.spawner;
}

abbrev pub decreases-loop-done : goal.decreases-loop-done
decreases-loop-done g l = length (g.W.Spawner.started l.spawner) - length (g.W.Spawner.reports l.spawner)
