use Rattle.std.proofs.Common.{length, subst}
use Rattle.relay_objects.specs.Reached.{Reached}
use Rattle.broker_core.specs.Watched.{watched_since}
use Rattle.lines_transcript.specs.Printed.{Printing, MayPrint}
use Rattle.seat_set.proofs.TextsSince.{written}
use Rattle.seat_set.proofs.player.Player.printed.Goals as goal

pub returns-clause-text : goal.returns-clause-text
returns-clause-text c =
    let store = c.args.self.now.limits.store in
    let before = c.args.self.now.play.journal in
    let after = c.line_watched-played.new.self.play.journal in
    let watched = c.line_watched-played.ensures.watched in
    written store c.args.self.now.play c.line_watched-played.new.self.play c.finish.result watched.grew
    (c.finish.ensures.text store (length before) after
    (subst (λ (p : Printing). Reached MayPrint p (watched_since store (length before) after)
    c.line_watched-played.new.watch) c.new-printer.ensures watched.told))
