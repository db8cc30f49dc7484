use Rattle.std.proofs.Common.{◌∙◌, sym}
use Rattle.wl_proto.proofs.TableLemmas.{rises-increasing, increasing-rises}
use Rattle.wl_proto.proofs.table.SigTable.opcodes_rise.Goals as goal

pub returns : goal.returns
returns g c = (λ is. rises-increasing _ (sym c.rise.ensures ∙ is), λ h. c.rise.ensures ∙ increasing-rises _ h)
