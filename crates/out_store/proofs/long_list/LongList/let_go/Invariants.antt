use Rattle.std.proofs.Common.{◌≡◌, ◌≤◌, ◌-◌, length}
use Rattle.std.specs.Prelude.{max, min}
use Rattle.out_store.proofs.long_list.LongList.let_go.Given as goal

-- no item changes, and none goes that has a greater number
abbrev pub invariant-loop-self : goal.invariant-loop-self
invariant-loop-self g l = record {
  same : l.self.items ≡ l.initial.self.items;
  gone : l.initial.self.kept_from ≤ l.self.kept_from;
  few : l.self.kept_from ≤ max l.initial.self.kept_from (min l.number (length l.initial.self.items));
  room : l.initial.self.room ≤ l.self.room;
}

abbrev pub decreases-loop-self : goal.decreases-loop-self
decreases-loop-self g l = l.number - l.self.kept_from
