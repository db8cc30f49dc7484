use Rattle.std.proofs.Common.{Err, ap}
use Rattle.client_side.specs.Events.{field_objects}
use Rattle.client_side.specs.FieldState.{after_event}
use Rattle.trial_run.proofs.EventsKnown.{field_knows}
use Rattle.trial_run.proofs.PieceHeard.{heard_ok, heard_bad}
use Rattle.trial_run.proofs.clients.field_hears.Goals as goal

pub returns-in-Ok : goal.returns-in-Ok
returns-in-Ok c =
    heard_ok after_event field_knows field_objects _ _ _
    (λ e. (let no = c.in-Ok.ensures.again e in cc)) c.in-Ok.ensures.ok

pub returns-in-Err-BadEvent : goal.returns-in-Err-BadEvent
returns-in-Err-BadEvent c =
    let told = c.in-Err-BadEvent.ensures in
    heard_bad after_event field_knows field_objects _ _ _
    (told.bad (ap Err c.in-Err-BadEvent.field-0-is)) told.stays_bad
