use Rattle.std.proofs.Common.{length, refl}
use Rattle.broker_core.specs.declared.answers.Took.TheVariants as took
use Rattle.program_gen.proofs.StepsTaken.{bytes_taken}
use Rattle.program_gen.proofs.playing.take_into.Goals as goal

pub returns-in-Bytes-clause-ok : goal.returns-in-Bytes-clause-ok
returns-in-Bytes-clause-ok g c =
    bytes_taken (record { moment = 0; author = 0 }) c.args.shared.now c.take_watched.new.self c.args.peer
    (length c.args.bytes.now) c.in-Bytes.field-0
    c.in-Bytes.field-1 _ _ c.take_watched.new.buf c.take_watched.new.tokens
    (took.Bytes c.in-Bytes.field-0 c.in-Bytes.field-1) c.requires.bytes.0 refl refl c.requires.room
    c.in-Bytes.ensures.refused c.in-Bytes.ensures.accepted c.in-Bytes.ensures.bytes c.in-Bytes.ensures.settled
