use denote.Param.Send.{sendable}
use Rattle.hub_lock.proofs.HubCrosses.{root_send}
use Rattle.hub_lock.proofs.crossing.root_may_cross.Goals as goal

pub asks_send-requires-send-T : goal.asks_send-requires-send-T
asks_send-requires-send-T c κs = search (sendable, root_send) depth 8
