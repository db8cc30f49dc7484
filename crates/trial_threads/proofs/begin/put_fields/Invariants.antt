use Rattle.std.proofs.Common.{◌≡◌, ◌≤◌, ◌+◌, ◌*◌, ◌++◌, List, length}
use Rattle.hub_lock.specs.Passes.{IsOf}
use Rattle.trial_run.specs.declared.typist.TrialTypist.{TrialTypist}
use Rattle.trial_threads.specs.Users.{Part, fields_from}
use Rattle.trial_threads.specs.BegunJobs.{HaveBegun}
use Rattle.trial_threads.specs.Peers.{HaveJoined}
use Rattle.trial_threads.proofs.begin.put_fields.Given as goal

-- so many fields' jobs are ready
abbrev pub invariant-loop-index : goal.invariant-loop-index
invariant-loop-index g l = record {
  own : IsOf l.hub l.root;
  named : l.root.named ≡ l.initial.root.named;
  next : l.root.next ≤ 3 + 2 * l.index;
  begun : (typist : TrialTypist) (parts : List Part) → HaveBegun l.hub typist parts l.initial.jobs.items →
      HaveBegun l.hub typist (parts ++ fields_from 1 l.index l.users.actions.now) l.jobs.items;
  number : length l.jobs.items ≡ length l.initial.jobs.items + l.index;
  joined : HaveJoined l.initial.root (length l.initial.jobs.items) l.initial.jobs.items →
      HaveJoined l.root (length l.jobs.items) l.jobs.items;
}
