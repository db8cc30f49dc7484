use Rattle.std.proofs.Common.{◌≡◌, ◌≤◌, ◌+◌, ◌++◌, true, length, take, Ok}
use Rattle.std.specs.Arc.{arc_value}
use Rattle.serve_net.specs.declared.door.Door.{Door}
use Rattle.serve_words.specs.Words.{doors_of}
use Rattle.serve_run.specs.Started.{AllStarted, Starts}
use Rattle.serve_run.proofs.accept.accept_all.Given as goal

abbrev pub invariant-loop-letter : goal.invariant-loop-letter
invariant-loop-letter g l = record {
  started : AllStarted (arc_value l.hub) l.initial.root l.root (g.W.Spawner.started l.initial.spawner)
      (g.W.Spawner.started l.spawner) l.letters (length (g.N.Net.links l.initial.net) + 1) l.letter-index;
  links : g.N.Net.links l.net ≡ g.N.Net.links l.initial.net ++ take l.letter-index (doors_of l.letters);
  jobs : Starts g.W.Spawner.reports g.W.Spawner.before_start g.W.Spawner.refusal_count l.initial.spawner l.spawner
      (Ok tt);
  listens : g.N.Net.listens l.net ≡ g.N.Net.listens l.initial.net;
  opened : (d : Door) → g.N.Net.opened l.net d ≡ true;
  never_falls : g.N.Net.fault_count l.initial.net ≤ g.N.Net.fault_count l.net;
  none_failed : g.N.Net.fault_count l.net ≡ g.N.Net.fault_count l.initial.net;
}
