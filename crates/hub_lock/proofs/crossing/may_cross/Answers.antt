use denote.Param.Send.{sendable}
use Rattle.hub_lock.proofs.HubCrosses.{pass_send}
use Rattle.hub_lock.proofs.crossing.may_cross.Goals as goal

pub asks_send-requires-send-T : goal.asks_send-requires-send-T
asks_send-requires-send-T c κs = search (sendable, pass_send) depth 8
