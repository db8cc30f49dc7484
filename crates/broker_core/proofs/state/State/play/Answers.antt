use Rattle.std.proofs.Common.{◌≡◌, List, map, ap, subst, ◌∙◌}
use Rattle.std.specs.List.{AllByRecursion, flat_map}
use Rattle.relay_model.specs.declared.act.Act.{Act}
use Rattle.relay_model.specs.Told.{told}
use Rattle.relay_objects.specs.Reached.{Reached}
use Rattle.relay_objects.proofs.TellsAppend.{reached_append}
use Rattle.relay_core.specs.Stands as relay
use Rattle.broker_audience.specs.declared.live.Live.{Live}
use Rattle.broker_audience.specs.Lives.{Numbered, who, cleared, delivered, has_heard}
use Rattle.broker_audience.specs.Tells.{IsShort}
use Rattle.broker_core.specs.Watched.{shown_by, gathered_put}
use Rattle.broker_core.proofs.AudienceToldAll.{AllTold, all_told, delivered_all}
use Rattle.broker_core.proofs.EntryWatched.{who_cleared}
use Rattle.broker_core.proofs.state.State.play.Given.{Over}
use Rattle.broker_core.proofs.state.State.play.Goals as goal

stepped : (g : Over) (c : goal.After-deliver g) (log : List Act) → relay.StandsFor c.args.self.now.relay log →
    AllByRecursion IsShort (told c.args.act.now log) →
    AllTold (record c.args.self.now.audience { live = c.clear.new.self })
    (told c.args.act.now log) c.speak-route.new.audience
stepped g c log stands short =
    all_told (told c.args.act.now log)
    (record c.args.self.now.audience { live = c.clear.new.self }) c.speak-route.new.audience
    (c.speak-route.ensures.told log stands) short

heard : (g : Over) (c : goal.After-deliver g) (log : List Act) → relay.StandsFor c.args.self.now.relay log →
    AllByRecursion IsShort (told c.args.act.now log) →
    c.speak-route.new.audience.live.items
    ≡ map (has_heard c.args.self.now.audience.directory.made (told c.args.act.now log))
    (map cleared c.args.self.now.audience.live.items)
heard g c log stands short =
    let made = c.args.self.now.audience.directory.made in
    (stepped g c log stands short).live ∙ ap (map (has_heard made (told c.args.act.now log))) c.clear.ensures.items

pub returns-clause-live : goal.returns-clause-live
returns-clause-live g c = λ log stands short.
    let made = c.args.self.now.audience.directory.made in
    let all = told c.args.act.now log in
    c.deliver.ensures.items ∙ ap (map delivered) (heard g c log stands short)
    ∙ delivered_all made all c.args.self.now.audience.live.items

pub returns-clause-directory : goal.returns-clause-directory
returns-clause-directory g c = λ log stands short. (stepped g c log stands short).directory

pub returns-clause-watched : goal.returns-clause-watched
returns-clause-watched g c = λ log stands short.
    let R = g.W.Watch.may_follow in
    let n = c.args.number in
    let made = c.args.self.now.audience.directory.made in
    let all = told c.args.act.now log in
    let old : List Live = c.args.self.now.audience.live.items in
    let hears : List Live = map (has_heard made all) (map cleared old) in
    reached_append R (shown_by n made (map who old) all)
    (flat_map (gathered_put n) hears) c.args.watch.now c.speak-route.new.watch c.show_groups.new.watch
    (subst (λ (peers : List Numbered). Reached R c.args.watch.now (shown_by n made peers all) c.speak-route.new.watch)
    (ap (map who) c.clear.ensures.items ∙ who_cleared old) (c.speak-route.ensures.watched log stands short))
    (subst (λ (live : List Live). Reached R c.speak-route.new.watch
    (flat_map (gathered_put n) live) c.show_groups.new.watch)
    (heard g c log stands short) c.show_groups.ensures)
