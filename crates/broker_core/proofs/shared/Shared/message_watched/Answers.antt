use Rattle.std.proofs.Common.{rules}
use Rattle.broker_core.proofs.CallWatched.{nothing_watched}
use Rattle.broker_core.proofs.shared.Shared.message_watched.Goals as goal

pub returns-in-Some-clause-watched : goal.returns-in-Some-clause-watched
returns-in-Some-clause-watched g c = nothing_watched g.W.Watch.may_follow c.args.self.now c.args.watch.now

pub returns-in-Ok-clause-ok : goal.returns-in-Ok-clause-ok
returns-in-Ok-clause-ok g c = search rules
