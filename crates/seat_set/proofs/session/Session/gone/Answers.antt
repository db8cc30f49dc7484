use Rattle.seat_set.proofs.JournalGrows.{watched_none}
use Rattle.seat_set.proofs.session.Session.gone.Goals as goal

pub returns-then-not-lives-clause-watched : goal.returns-then-not-lives-clause-watched
returns-then-not-lives-clause-watched g c =
    watched_none g.W.Watch.may_follow c.args.self.now.limits.store c.args.self.now.play.journal c.args.watch.now
