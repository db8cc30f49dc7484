use Rattle.std.proofs.Common.{sym, ap, subst, rules}
use Rattle.seat_set.specs.Played.{Play, line_played}
use Rattle.seat_set.specs.Playing.{Playing, IsMore, IsFront}
use Rattle.seat_set.proofs.TextsSince.{short_line}
use Rattle.seat_set.proofs.player.Player.line.Goals as goal

pub returns-in_default-None-clause-full : goal.returns-in_default-None-clause-full
returns-in_default-None-clause-full c = λ unspent.
    let p = line_played c.args.self.now.limits c.args.line.now c.args.self.now.play in
    subst (λ (x : Play). IsMore x.journal p.play.journal × IsFront c.args.self.now.limits.store c.args.self.now.play x
    c.new-in_default-None.result)
    (sym (ap (λ (x : Playing). x.play) c.self-2.view_is))
    (short_line c.args.self.now.limits.store p c.printed.result.0 c.args.self.now.play c.printed.new.self.play
    c.new-in_default-None.result
    (c.printed.ensures.played unspent) c.printed.ensures.grew c.new-in_default-None.ensures.bytes)

pub returns-in-Err-Some-clause-full : goal.returns-in-Err-Some-clause-full
returns-in-Err-Some-clause-full c = search rules
