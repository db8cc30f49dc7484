use Rattle.std.proofs.Common.{length}
use Rattle.program_gen.proofs.EventsCounted.{IsCounting}
use Rattle.program_gen.proofs.events.events_in.Given as goal

abbrev pub invariant-messages : goal.invariant-messages
invariant-messages l = IsCounting l.object l.opcode l.fn.bytes l.count l.rest

abbrev pub decreases-messages : goal.decreases-messages
decreases-messages l = length l.rest
