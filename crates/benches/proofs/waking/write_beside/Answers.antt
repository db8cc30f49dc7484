use denote.Param.Send.{IsSend, sendable}
use denote.Ref.{NamedLft}
use Rattle.std.proofs.Crossing.{crosses}
use Rattle.hub_lock.proofs.HubCrosses.{hub_sync, writer_send}
use Rattle.benches.specs.contracts.peers.Writer as Writer
use Rattle.benches.proofs.waking.Board.TheSendSync as board
use Rattle.benches.proofs.waking.write_beside.Goals as goal

-- what a writer's thread has may move to another thread
one_send : (l : NamedLft) → IsSend (Writer.the_field l).row
one_send l = search (sendable, crosses, hub_sync, writer_send) depth 40

pub join-noted-requires-send-F : goal.join-noted-requires-send-F
join-noted-requires-send-F g c κs within =
    search (sendable, crosses, one_send, board.the_sync) depth 40 fits 100000
