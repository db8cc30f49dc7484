use Rattle.program_gen.proofs.StepsTaken.{none_watched}
use Rattle.program_gen.proofs.playing.play_step.Goals as goal

pub returns-in-Peer-2-clause-watched : goal.returns-in-Peer-2-clause-watched
returns-in-Peer-2-clause-watched g c = none_watched g.W.Watch.may_follow c.args.shared.now c.args.watch.now
