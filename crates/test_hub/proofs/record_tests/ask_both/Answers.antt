use denote.Param.Send.{IsSend, sendable}
use denote.Ref.{NamedLft}
use Rattle.std.proofs.Crossing.{crosses}
use Rattle.hub_lock.proofs.HubCrosses.{hub_sync, reader_send, writer_send}
use Rattle.test_hub.specs.contracts.peer.Steps as Steps
use Rattle.test_hub.specs.contracts.peer.Takes as Takes
use Rattle.test_hub.specs.contracts.record_tests.Peer as Peer
use Rattle.test_hub.proofs.record_tests.ask_both.Goals as goal

-- what gives a peer's steps, and what takes what it is told, may move to another thread
steps_send : (l : NamedLft) → IsSend (Steps.the_field l).row
steps_send l = search (sendable, crosses, hub_sync, reader_send) depth 40

takes_send : (l : NamedLft) → IsSend (Takes.the_field l).row
takes_send l = search (sendable, crosses, hub_sync, writer_send) depth 40

-- and so may both
peer_send : (l : NamedLft) → IsSend (Peer.the_field l).row
peer_send l = search (sendable, crosses, steps_send, takes_send) depth 40

pub join-requires-send-F : goal.join-requires-send-F
join-requires-send-F g c κs within =
    search (sendable, crosses, hub_sync, peer_send) depth 40 fits 100000
