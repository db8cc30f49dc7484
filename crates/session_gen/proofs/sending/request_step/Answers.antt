use Rattle.std.proofs.Common.{◌≡◌, ◌+◌, ◌*◌, ◌≤◌, ◌∙◌, arith, slice_index}
use Rattle.wl_proto.specs.Rows.{Message, request_message}
use Rattle.session_gen.proofs.BytesOfAMessage.{opcode_in, body_in, sends_it}
use Rattle.session_gen.proofs.sending.request_step.Goals as goal

pub returns-clause-value : goal.returns-clause-value
returns-clause-value c =
    let m : Message = request_message c.args.request.now in
    let out = c.write_request-size.new.out in
    let is = c.write_request-size.ensures.bytes in
    let size = c.write_request-size.ensures.len in
    let parts : c.from_le_bytes-opcode.result ≡ slice_index out 4 + 256 * slice_index out 5 =
    omega (arith, c.from_le_bytes-opcode.ensures) in
    let short : c.write_request-size.result ≤ 64 = omega (arith, size, c.requires.0) in
    sends_it c.args.peer c.args.object m _ _
    (parts ∙ opcode_in c.args.object m out _ is c.ranges.object.fits c.requires.1 (omega (arith, c.requires.0)))
    (c.new.ensures.value ∙ c.in_ok-body.ensures.items
    ∙ body_in c.args.object m _ out c.write_request-size.result is c.write_request-size.auto.out short)
