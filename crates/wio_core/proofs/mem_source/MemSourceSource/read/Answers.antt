use Rattle.std.proofs.Common.{drop-drop}
use Rattle.std.proofs.Math.Seq.{take-add}
use Rattle.wio_core.proofs.mem_source.MemSourceSource.read.Goals as goal

pub returns-clause-ok : goal.returns-clause-ok
returns-clause-ok c = rw (← c.self.view_is, take-add, drop-drop, c.saturating_add-self-inside.ensures)
