use Rattle.std.proofs.Common.{ap}
use Rattle.out_store.specs.Queue.{Queue}
use Rattle.out_store.proofs.StoreStandsFor.{is_empty-cells}
use Rattle.out_store.proofs.Store.is_empty.Goals as goal

pub returns : goal.returns
returns c = is_empty-cells c.self.inside.bytes.items _ _ _
    (ap (λ (q : Queue). q.cells) c.self.view_is) c.is_empty.ensures
