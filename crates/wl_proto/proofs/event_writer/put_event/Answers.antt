use Rattle.std.proofs.Common.{rules}
use Rattle.wl_proto.proofs.event_writer.put_event.Goals as goal

pub returns-in-DeleteId : goal.returns-in-DeleteId
returns-in-DeleteId c = search rules
