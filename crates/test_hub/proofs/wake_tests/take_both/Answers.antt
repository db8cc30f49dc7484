use denote.Param.Send.{sendable}
use Rattle.std.proofs.Crossing.{crosses}
use Rattle.hub_lock.proofs.HubCrosses.{hub_sync, writer_send}
use Rattle.test_hub.proofs.wake_tests.Taken.TheSendSync as taken
use Rattle.test_hub.proofs.wake_tests.take_both.Goals as goal

pub join-requires-send-F : goal.join-requires-send-F
join-requires-send-F g c κs within =
    search (sendable, crosses, hub_sync, writer_send, taken.the_sync) depth 40 fits 100000
