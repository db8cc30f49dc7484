use Rattle.std.proofs.Common.{ℕ, List, get_or, length, take, refl, sym, ap, ◌∙◌, subst}
use Rattle.std.proofs.lemmas.List.{take_all}
use Rattle.relay_objects.specs.Reached.{Reached}
use Rattle.relay_objects.proofs.TellsAppend.{reached_append}
use Rattle.broker_audience.proofs.MarkedPlaces.{below}
use Rattle.broker_core.specs.Watched.{gathered_put}
use Rattle.broker_core.proofs.MarkedGroups.{put_at, none_put, put_more, all_put, quiet_put}
use Rattle.broker_core.proofs.watch.show_groups.Goals as goal

pub loop-place-init : goal.loop-place-init
loop-place-init g c =
    subst (λ ws. Reached g.W.Watch.may_follow c.args.watch.now ws c.args.watch.now)
    (sym (none_put (gathered_put c.args.number) 0 c.args.live.now.items)) refl

pub at-requires : goal.at-requires
at-requires g c =
    record {
      place =
          below c.told-place-items.result.now 0
          (length c.args.live.now.items) c.loop-place.place-index 0 c.told-place-items.ensures.within
          c.loop-place-test.true;
    }

pub loop-place-preserved : goal.loop-place-preserved
loop-place-preserved g c =
    let R = g.W.Watch.may_follow in
    let f = gathered_put c.args.number in
    let told = c.told-place-items.result.now in
    let live = c.args.live.now.items in
    let i = c.loop-place.place-index in
    subst (λ ws. Reached R c.args.watch.now ws c.show_group.new.watch)
    (sym (put_more f told live i c.at.result.now c.told-place-items.ensures.within c.loop-place-test.true c.at.ensures))
    (reached_append R (put_at f (take i told) 0 live)
    (f c.at.result.now) c.args.watch.now c.loop-place.watch c.show_group.new.watch c.loop-place.invariant
    c.show_group.ensures)

pub returns : goal.returns
returns g c =
    let f = gathered_put c.args.number in
    let told = c.told-place-items.result.now in
    let live = c.args.live.now.items in
    subst (λ ws. Reached g.W.Watch.may_follow c.args.watch.now ws c.loop-place.watch)
    (ap (λ (ms : List ℕ). put_at f ms 0 live) (take_all c.loop-place.place-index told c.loop-place-test.false)
    ∙ all_put f told live
    (λ j d lt off. quiet_put c.args.number (get_or live j d) (c.told-place-items.ensures.quiet j d lt off)))
    c.loop-place.invariant
