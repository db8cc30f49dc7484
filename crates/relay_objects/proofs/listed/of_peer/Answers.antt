use Rattle.relay_objects.proofs.PeerParts.{part_is}
use Rattle.relay_objects.proofs.listed.of_peer.Goals as goal

pub returns : goal.returns
returns c = part_is c.args.fields.now c.args.peer _ _ c.part_of-start.ensures
