use Rattle.std.proofs.Common.{◌≤◌}
use Rattle.trial_typing.specs.FieldGoing.{IsFieldOf, FieldKeeps, IsFieldAt, HasFieldRest}
use Rattle.trial_typing.specs.FieldLaw.{first_edits}
use Rattle.trial_typing.proofs.field_job.play_field.Given as goal

-- the first of the edits were made, and what they brought was answered
abbrev pub invariant-loop-index : goal.invariant-loop-index
invariant-loop-index g l = record {
  of : IsFieldOf l.hub l.job;
  keeps : FieldKeeps l.hub.limits l.initial.job l.job;
  goes : IsFieldAt l.hub.limits l.job (first_edits l.initial.job l.index) l.goes_on;
  rests : 1 ≤ l.index → HasFieldRest l.hub.limits l.job (first_edits l.initial.job l.index) l.goes_on;
}
