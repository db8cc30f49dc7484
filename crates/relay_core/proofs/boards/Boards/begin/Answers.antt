use Rattle.std.proofs.Common.{◌+◌, sym, ◌∙◌}
use Rattle.relay_core.specs.Kept.{state, kept}
use Rattle.relay_core.specs.BoardKeys.{IsAhead}
use Rattle.relay_core.proofs.LiveBoards.{begun_at}
use Rattle.relay_core.proofs.boards.Boards.begin.Goals as goal

pub returns-then-is_peer : goal.returns-then-is_peer
returns-then-is_peer c =
    let ahead : IsAhead c.args.peer (state c.args.machine.now) (kept c.args.self.now) =
    c.requires.made c.requires.number in
    begun_at (kept c.args.self.now) c.args.peer (c.args.machine.now.acts + 1) _
    (sym c.is_peer.ensures ∙ c.if-is_peer.true) ahead.label ahead.board
