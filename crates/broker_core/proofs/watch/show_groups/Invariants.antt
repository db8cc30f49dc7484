use Rattle.std.proofs.Common.{take}
use Rattle.relay_objects.specs.Reached.{Reached}
use Rattle.broker_core.specs.Watched.{gathered_put}
use Rattle.broker_core.proofs.MarkedGroups.{put_at}
use Rattle.broker_core.proofs.watch.show_groups.Given as goal

-- the groups at the marked places so far are told
abbrev pub invariant-loop-place : goal.invariant-loop-place
invariant-loop-place g l =
    Reached g.W.Watch.may_follow l.fn.watch
    (put_at (gathered_put l.fn.number) (take l.place-index l.place-items) 0 l.live.items) l.watch
