use Rattle.std.proofs.Common.{arith}
use Rattle.wl_proto.specs.Rows.{request_message, request_kinds}
use Rattle.wl_proto.specs.Reading.{request_reading}
use Rattle.broker_wire.proofs.BodiesRead.{gives}
use Rattle.broker_wire.proofs.RequestTexts.{read_text}
use Rattle.broker_wire.proofs.meaning.read.Goals as goal

pub returns-clause-gives : goal.returns-clause-gives
unfolding request_reading
returns-clause-gives c =
    gives request_message (request_kinds c.args.interface c.args.opcode) c.args.interface c.args.opcode _ _ _
    (λ i. omega (arith, c.type_inv.body i)) c.read_request.ensures

pub returns-clause-text : goal.returns-clause-text
returns-clause-text c = read_text _ _ _ _ _ c.read_request.result c.read_request.ensures
