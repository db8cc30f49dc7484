use Rattle.std.proofs.Common.{arith}
use Rattle.wl_proto.specs.Rows.{request_message, request_kinds}
use Rattle.wl_proto.specs.Reading.{request_reading}
use Rattle.wl_proto.proofs.MessagesReadBack.{answers}
use Rattle.wl_proto.proofs.request_reader.answer_request.Goals as goal

pub returns : goal.returns
unfolding request_reading
returns c = answers request_message (request_kinds c.args.interface c.args.opcode) c.args.interface c.args.opcode _ _ _
    (λ i. omega (arith, c.type_inv.body i)) c.request_of.ensures
