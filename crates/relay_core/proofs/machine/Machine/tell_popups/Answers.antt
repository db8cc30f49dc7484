use Rattle.std.proofs.Common.{subst, sym, ap, ◌∙◌}
use Rattle.std.specs.List.{flat_map}
use Rattle.relay_objects.specs.Reached.{Reached}
use Rattle.relay_core.specs.Kept.{state}
use Rattle.relay_core.specs.Popups.{live_told, popups_beside}
use Rattle.relay_core.proofs.LivePopups.{listed_told}
use Rattle.relay_core.proofs.machine.Machine.tell_popups.Goals as goal

pub returns-in-Some : goal.returns-in-Some
returns-in-Some g c =
    let s = state c.args.self.now in
    let told =
    ap (flat_map (live_told s c.in-Some.rect)) c.popups.ensures
    ∙ listed_told s c.in-Some.rect c.args.self.now.objects.items
    ∙ ap (popups_beside s) (sym c.in-Some.is ∙ c.cursor.ensures) in
    subst (λ ts. Reached g.P.Post.may_follow c.args.post.now ts c.tell_each.new.post) told c.tell_each.ensures
