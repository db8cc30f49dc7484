use Rattle.std.proofs.Common.{◌∙◌, ap, sym, ℕ, ◌++◌, drop}
use Rattle.wl_proto.specs.Arguments.{values_of}
use Rattle.wl_proto.specs.Spelling.{row_bytes}
use Rattle.wl_proto.proofs.WrittenIsSpelled.{out_is}
use Rattle.wl_proto.proofs.argument.put_message.Goals as goal

pub returns-clause-bytes : goal.returns-clause-bytes
returns-clause-bytes c =
    let vs = values_of c.args.arguments.now in
    c.put_parts.ensures.bytes ∙ out_is c.args.receiver c.args.opcode vs c.args.out.now
    ∙ ap (λ (n : ℕ). row_bytes c.args.receiver c.args.opcode vs ++ drop n c.args.out.now) (sym c.put_parts.ensures.len)
