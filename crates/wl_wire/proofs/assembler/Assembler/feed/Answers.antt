use Rattle.wl_wire.proofs.MessagesHoweverCut.{fed_on}
use Rattle.wl_wire.proofs.PiecesGathered.{told_is_there}
use Rattle.wl_wire.proofs.assembler.Assembler.feed.Goals as goal

pub returns-clause-all : goal.returns-clause-all
returns-clause-all c stream h = fed_on stream _ _ _ _ h c.gather_piece.ensures

pub returns-clause-ready : goal.returns-clause-ready
returns-clause-ready c = told_is_there c.args.self.now c.args.piece.now _ _ c.gather_piece.ensures
