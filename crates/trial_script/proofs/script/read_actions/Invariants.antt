use Rattle.std.proofs.Common.{◌≡◌, ◌+◌, ◌<◌, ◌^◌, length}
use Rattle.trial_script.specs.Lines.{lines_of}
use Rattle.trial_script.specs.Scripts.{actions_of}
use Rattle.trial_script.proofs.ScriptsRead.{behind}
use Rattle.trial_script.proofs.script.read_actions.Given as goal

-- the actions so far before those of the lines that are left
abbrev pub invariant-loop-raw : goal.invariant-loop-raw
invariant-loop-raw l = record {
  few : l.number + length l.rest < 2 ^ 64;
  all : behind l.actions (actions_of l.fields l.number (lines_of l.rest))
      ≡ actions_of l.fields l.first (lines_of l.bytes);
}

abbrev pub decreases-loop-raw : goal.decreases-loop-raw
decreases-loop-raw l = length l.rest
