use denote.Param.Send.{IsSend, sendable}
use denote.Ref.{NamedLft}
use Rattle.std.proofs.Crossing.{crosses}
use Rattle.hub_lock.proofs.HubCrosses.{hub_sync, reader_send, shell_send}
use Rattle.test_hub.specs.contracts.peer.Steps as Steps
use Rattle.test_hub.specs.contracts.peer.Orders as Orders
use Rattle.test_hub.specs.contracts.wake_tests.Crew as Crew
use Rattle.test_hub.proofs.wake_tests.Taken.TheSendSync as taken
use Rattle.test_hub.proofs.wake_tests.play_beside.Goals as goal

-- the shell and both readers may move to another thread
steps_send : (l : NamedLft) → IsSend (Steps.the_field l).row
steps_send l = search (sendable, crosses, hub_sync, reader_send) depth 40

orders_send : (l : NamedLft) → IsSend (Orders.the_field l).row
orders_send l = search (sendable, crosses, hub_sync, shell_send) depth 40

crew_send : (l : NamedLft) → IsSend (Crew.the_field l).row
crew_send l = search (sendable, crosses, steps_send, orders_send) depth 40

pub join-requires-send-F : goal.join-requires-send-F
join-requires-send-F g c κs within =
    search (sendable, crosses, crew_send, taken.the_sync) depth 40 fits 100000
