use Rattle.std.proofs.Common.{◌≡◌, take}
use Rattle.client_side.specs.FieldLog.{text_of}
use Rattle.trial_client_logs.specs.Logs.{field_log}
use Rattle.trial_client_logs.proofs.replay.field_of.Given as goal

-- the field is that of the entries so far
abbrev pub invariant-loop-entry : goal.invariant-loop-entry
invariant-loop-entry l = l.field ≡ text_of (field_log (take l.entry-index l.entry-items))
