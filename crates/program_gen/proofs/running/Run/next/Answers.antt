use Rattle.std.proofs.Common.{arith}
use Rattle.program_gen.proofs.RunGoesOn.{dones_fit, room_for, made_step, next_stands}
use Rattle.program_gen.proofs.running.Run.next.Goals as goal

pub overflow_cast-dones : goal.overflow_cast-dones
overflow_cast-dones c = (let few = dones_fit c.args.self.now c.requires.stands in omega arith)

pub play-requires-clause-room : goal.play-requires-clause-room
play-requires-clause-room c = room_for c.args.self.now c.requires.stands c.requires.more

pub returns-clause-step : goal.returns-clause-step
returns-clause-step c = made_step c.args.self.now c.in_ok-step.step c.requires.stands c.in_ok-step.ensures.step

pub returns-clause-stands : goal.returns-clause-stands
returns-clause-stands c =
    next_stands c.args.self.now _ c.in_ok-step.step c.requires.stands c.requires.more c.in_ok-step.ensures.ok
    c.in_ok-step.ensures.step c.in_ok-play.ensures.ok c.in_ok-play.ensures.watched c.in_ok-play.ensures.short
