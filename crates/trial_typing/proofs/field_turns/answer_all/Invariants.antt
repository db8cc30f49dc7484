use Rattle.std.proofs.Common.{List, true}
use Rattle.trial_field.specs.Log.{Entry}
use Rattle.trial_typing.specs.FieldGoing.{IsFieldOf, FieldKeeps, IsFieldAt}
use Rattle.trial_typing.proofs.field_turns.answer_all.Given as goal

-- the peer goes on, and what was taken so far was answered
abbrev pub invariant-loop : goal.invariant-loop
invariant-loop g l = record {
  of : IsFieldOf l.hub l.job;
  keeps : FieldKeeps l.hub.limits l.initial.job l.job;
  goes : (own : List Entry) → IsFieldAt l.hub.limits l.initial.job own true →
      IsFieldAt l.hub.limits l.job own true;
}
