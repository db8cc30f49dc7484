use Rattle.std.proofs.Common.{◌-◌, drop, length}
use Rattle.c_broker.specs.Open.{Rise}
use Rattle.c_broker.proofs.OpenReady.{NoneBut}
use Rattle.c_broker.proofs.open.OpenPeers.first_noted.Given as goal

-- those that are ahead rise, and the others have nothing stored
abbrev pub invariant-numbers : goal.invariant-numbers
invariant-numbers l = record {
  rise : Rise l.after (drop l.place l.self.numbers.items) l.self.seen;
  none : NoneBut l.shared l.after l.self.seen (drop l.place l.self.numbers.items);
}

abbrev pub decreases-numbers : goal.decreases-numbers
decreases-numbers l = length l.self.numbers.items - l.place
