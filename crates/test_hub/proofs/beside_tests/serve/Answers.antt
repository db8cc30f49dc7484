use denote.Param.Send.{IsSend, sendable}
use denote.Ref.{NamedLft}
use Rattle.std.proofs.Crossing.{crosses}
use Rattle.hub_lock.proofs.HubCrosses.{hub_sync, reader_send}
use Rattle.test_hub.specs.contracts.peer.Reads as Reads
use Rattle.test_hub.proofs.board.Board.TheSendSync as board
use Rattle.test_hub.proofs.beside_tests.serve.Goals as goal

-- what reads a link may move to another thread
reads_send : (l : NamedLft) → IsSend (Reads.the_field l).row
reads_send l = search (sendable, crosses, hub_sync, reader_send) depth 40

pub join-out-requires-send-F : goal.join-out-requires-send-F
join-out-requires-send-F g c κs within =
    search (sendable, crosses, reads_send, board.the_sync) depth 40 fits 100000
