use Rattle.wl_proto.proofs.EachRow.{each_request, each_event}
use Rattle.wl_proto.proofs.laws.each_has_its_row.Goals as goal

pub returns : goal.returns
returns c = record { requests = each_request; events = each_event }
