use denote.Param.Send.{sendable}
use Rattle.std.proofs.Crossing.{crosses}
use Rattle.hub_lock.proofs.HubCrosses.{hub_sync, recorder_send}
use Rattle.test_hub.proofs.record_tests.record_beside.Goals as goal

pub join-requires-send-F : goal.join-requires-send-F
join-requires-send-F g c κs within =
    search (sendable, crosses, hub_sync, recorder_send) depth 40 fits 100000
