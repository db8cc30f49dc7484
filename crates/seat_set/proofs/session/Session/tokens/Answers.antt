use Rattle.std.proofs.lemmas.Result.{err_from_is_err_and}
use Rattle.seat_set.proofs.JournalGrows.{tokens_grow, watched_none}
use Rattle.seat_set.proofs.session.Session.tokens.Goals as goal

pub returns-then-not-lives-clause-watched : goal.returns-then-not-lives-clause-watched
returns-then-not-lives-clause-watched g c =
    watched_none g.W.Watch.may_follow c.args.self.now.limits.store c.args.self.now.play.journal c.args.watch.now

pub returns-in_err-copy-clause-played : goal.returns-in_err-copy-clause-played
returns-in_err-copy-clause-played g c =
    let p = err_from_is_err_and c.from_residual.result c.from_residual.ensures.1 in
    rw (p.1, p.2) (tokens_grow c.args.self.now.limits c.args.number c.args.tokens.now c.args.self.now.play)

pub returns-in_err-copy-clause-watched : goal.returns-in_err-copy-clause-watched
returns-in_err-copy-clause-watched g c =
    watched_none g.W.Watch.may_follow c.args.self.now.limits.store c.args.self.now.play.journal c.args.watch.now
