use Rattle.std.proofs.Common.{sym, ap, ◌∙◌, length}
use Rattle.out_store.specs.Queue.{Queue}
use Rattle.out_store.proofs.CellsMove.{length-cells_from}
use Rattle.out_store.proofs.Store.len.Goals as goal

pub returns-clause-count : goal.returns-clause-count
returns-clause-count c =
    c.len.ensures.len ∙ sym (length-cells_from 0 c.self.inside.bytes.items _)
    ∙ ap (λ (q : Queue). length q.cells) c.self.view_is
