use Rattle.std.proofs.Common.{drop}
use Rattle.std.specs.List.{flat_map}
use Rattle.relay_core.specs.Kept.{state}
use Rattle.relay_core.specs.Popups.{live_told}
use Rattle.relay_objects.specs.Reached.{Reached}
use Rattle.relay_core.proofs.machine.Machine.tell_each.Given as goal

-- what is left to tell leads from here to where all leads from the start
abbrev pub invariant-loop-popup : goal.invariant-loop-popup
invariant-loop-popup g l =
    (z : _) → Reached g.P.Post.may_follow l.post
    (flat_map (live_told (state l.self) l.rect) (drop l.popup-index l.popups)) z
    → Reached g.P.Post.may_follow l.fn.post (flat_map (live_told (state l.self) l.rect) l.popups) z
