use Rattle.std.proofs.Common.{◌*◌, ◌-◌, ◌≤◌, length, drop}
use Rattle.client_side.specs.Events.{field_objects}
use Rattle.client_side.specs.FieldState.{after_event}
use Rattle.client_side.specs.Client.{Takes}
use Rattle.client_side.specs.Heard.{Hears, happened}
use Rattle.client_side.proofs.field_receiving.take_events.Given as goal

abbrev pub invariant-events : goal.invariant-events
invariant-events g l =
    (l.at ≤ length l.bytes)
    × (510 * (length l.bytes - l.at) ≤ l.state.room)
    × Takes field_objects after_event l.initial.state.state l.state.state l.bytes (drop l.at l.bytes)
    × Hears field_objects after_event happened g.H.FieldHearer.may_follow l.initial.state.state l.state.state l.bytes
    (drop l.at l.bytes) l.initial.hearer l.hearer

abbrev pub decreases-events : goal.decreases-events
decreases-events g l = length l.initial.bytes - l.at
