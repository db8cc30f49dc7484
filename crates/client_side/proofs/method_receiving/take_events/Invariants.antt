use Rattle.std.proofs.Common.{◌*◌, ◌-◌, ◌≤◌, length, drop}
use Rattle.client_side.specs.Events.{method_objects}
use Rattle.client_side.specs.MethodState.{after_event}
use Rattle.client_side.specs.Client.{Takes}
use Rattle.client_side.specs.Heard.{Hears, came}
use Rattle.client_side.proofs.method_receiving.take_events.Given as goal

abbrev pub invariant-events : goal.invariant-events
invariant-events g l =
    (l.at ≤ length l.bytes)
    × (1029 * (length l.bytes - l.at) ≤ l.state.room)
    × Takes method_objects (after_event g.T.Typist.meanings) l.initial.state.state l.state.state l.bytes
    (drop l.at l.bytes)
    × Hears method_objects
    (after_event g.T.Typist.meanings) came g.H.MethodHearer.may_follow l.initial.state.state l.state.state
    l.bytes (drop l.at l.bytes) l.initial.hearer l.hearer

abbrev pub decreases-events : goal.decreases-events
decreases-events g l = length l.initial.bytes - l.at
