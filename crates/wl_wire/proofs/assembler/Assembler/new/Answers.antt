use Rattle.wl_wire.proofs.MessagesHoweverCut.{fed_nothing}
use Rattle.wl_wire.proofs.assembler.Assembler.new.Goals as goal

pub returns-clause-fed : goal.returns-clause-fed
returns-clause-fed c = rw c.in_ok-held.ensures.items fed_nothing
