use Rattle.std.proofs.Common.{Err, ap}
use Rattle.client_side.specs.Events.{method_objects}
use Rattle.client_side.specs.MethodState.{after_event}
use Rattle.trial_run.specs.Typists.{meanings_of}
use Rattle.trial_run.proofs.EventsKnown.{method_knows}
use Rattle.trial_run.proofs.PieceHeard.{heard_ok, heard_bad}
use Rattle.trial_run.proofs.clients.method_hears.Goals as goal

pub returns-in-Ok : goal.returns-in-Ok
returns-in-Ok c =
    heard_ok (after_event meanings_of) method_knows method_objects _ _ _
    (λ e. (let no = c.in-Ok.ensures.again e in cc)) c.in-Ok.ensures.ok

pub returns-in-Err-BadEvent : goal.returns-in-Err-BadEvent
returns-in-Err-BadEvent c =
    let told = c.in-Err-BadEvent.ensures in
    heard_bad (after_event meanings_of) method_knows method_objects _ _ _
    (told.bad (ap Err c.in-Err-BadEvent.field-0-is)) told.stays_bad
