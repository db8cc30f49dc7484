use denote.Param.Send.{sendable}
use Rattle.hub_lock.proofs.HubCrosses.{hub_send, hub_sync}
use Rattle.hub_lock.proofs.crossing.may_be_shared.Goals as goal

pub asks_sync-requires-sync-T : goal.asks_sync-requires-sync-T
asks_sync-requires-sync-T c κs = search (sendable, hub_sync) depth 8

pub asks_send-requires-send-T : goal.asks_send-requires-send-T
asks_send-requires-send-T c κs = search (sendable, hub_send) depth 8
