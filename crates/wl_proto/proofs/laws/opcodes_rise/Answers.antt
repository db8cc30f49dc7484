use Rattle.wl_proto.proofs.EachRow.{requests_rise, events_rise}
use Rattle.wl_proto.proofs.laws.opcodes_rise.Goals as goal

pub returns : goal.returns
returns c = record { requests = requests_rise; events = events_rise }
