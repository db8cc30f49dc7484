use denote.Param.Send.{sendable}
use Rattle.std.proofs.Crossing.{crosses}
use Rattle.hub_lock.proofs.HubCrosses.{hub_sync, reader_send}
use Rattle.benches.proofs.peers.race.Goals as goal

pub map_vec-requires-send-J : goal.map_vec-requires-send-J
map_vec-requires-send-J g c κs within =
    search (sendable, crosses, hub_sync, reader_send) depth 40 fits 100000
