use Rattle.std.proofs.Common.{ap, subst}
use Rattle.broker_core.specs.Broker.{Broker}
use Rattle.c_broker.specs.Promise.{Promise}
use Rattle.c_broker.specs.Seated.{Bytewise}
use Rattle.c_broker.proofs.seat.ByteSeat.kept.Goals as goal

pub returns-clause-promise : goal.returns-clause-promise
returns-clause-promise c =
    subst (λ (b : Broker). Promise b) (ap (λ (v : Bytewise). v.broker) c.self.view_is) (record {
      history = c.journal.ensures.history;
      nobody_is_due = c.journal.ensures.nobody_is_due;
      few_peers = c.journal.ensures.few_peers;
      few_objects = c.journal.ensures.few_objects;
      few_keys = c.journal.ensures.few_keys;
      stores = c.journal.ensures.stores;
      counted = c.journal.ensures.counted;
      light = c.journal.ensures.light;
      one_end = c.journal.ensures.one_end;
    })
