use Rattle.std.proofs.Common.{rules}
use Rattle.relay_model.specs.Told.{told}
use Rattle.broker_core.proofs.WatchedTelling.{same_two, audience_hears, watcher_told}
use Rattle.broker_core.proofs.watch.speak.Goals as goal

pub returns-clause-told : goal.returns-clause-told
returns-clause-told g c = λ log stands.
    let R = g.W.Watch.may_follow in
    let ts = told c.args.act.now log in
    let reached = c.step.ensures.told log stands in
    let same = (same_two R ts _ c.step.new.post reached).audience in
    let hears = audience_hears R ts _ c.step.new.post reached in
    search (rules, same, hears)

pub returns-clause-watched : goal.returns-clause-watched
returns-clause-watched g c = λ log stands short.
    let R = g.W.Watch.may_follow in
    let ts = told c.args.act.now log in
    let reached = c.step.ensures.told log stands in
    let same = (same_two R ts _ c.step.new.post reached).watch in
    let tells = watcher_told R ts _ c.step.new.post reached short in
    search (rules, same, tells)
