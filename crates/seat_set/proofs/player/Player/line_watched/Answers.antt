use Rattle.std.proofs.Common.{rules}
use Rattle.seat_set.proofs.JournalGrows.{watched_none}
use Rattle.seat_set.proofs.player.Player.line_watched.Goals as goal

pub returns-in-Some-clause-watched : goal.returns-in-Some-clause-watched
returns-in-Some-clause-watched g c =
    watched_none g.W.Watch.may_follow c.args.self.now.limits.store c.args.self.now.play.journal c.args.watch.now

pub returns-in-Err-clause-stamped : goal.returns-in-Err-clause-stamped
returns-in-Err-clause-stamped g c = search rules

pub returns-in-Err-clause-stopped : goal.returns-in-Err-clause-stopped
returns-in-Err-clause-stopped g c = search rules
