use Rattle.std.proofs.Common.{rules, arith}
use Rattle.wl_wire.proofs.FirstMessages.{whole_tells, part_tells, bad_tells}
use Rattle.wl_wire.proofs.front.front_of.Goals as goal

pub returns-then-bytes-lt-HEADER_SIZE-clause-messages : goal.returns-then-bytes-lt-HEADER_SIZE-clause-messages
returns-then-bytes-lt-HEADER_SIZE-clause-messages c = part_tells c.args.bytes.now (λ long. omega arith)

pub returns-then-not-is_good-clause-messages : goal.returns-then-not-is_good-clause-messages
returns-then-not-is_good-clause-messages c = bad_tells c.args.bytes.now (search rules)

pub returns-then-bytes-size-clause-messages : goal.returns-then-bytes-size-clause-messages
returns-then-bytes-size-clause-messages c = part_tells c.args.bytes.now (search rules)

pub returns-clause-messages : goal.returns-clause-messages
returns-clause-messages c =
    whole_tells c.args.bytes.now c.size_at-size.result c.size_at-size.ensures (search rules) (omega arith)
