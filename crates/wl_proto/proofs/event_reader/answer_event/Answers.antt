use Rattle.std.proofs.Common.{arith}
use Rattle.wl_proto.specs.Rows.{event_message, event_kinds}
use Rattle.wl_proto.specs.Reading.{event_reading}
use Rattle.wl_proto.proofs.MessagesReadBack.{answers}
use Rattle.wl_proto.proofs.event_reader.answer_event.Goals as goal

pub returns : goal.returns
unfolding event_reading
returns c = answers event_message (event_kinds c.args.interface c.args.opcode) c.args.interface c.args.opcode _ _ _
    (λ i. omega (arith, c.type_inv.body i)) c.event_of.ensures
