use Rattle.std.proofs.Common.{◌≡◌, ◌+◌, ◌<◌, ◌^◌, length}
use Rattle.trial_script.specs.Lines.{lines_of}
use Rattle.trial_script.specs.Rules.{no_rules}
use Rattle.trial_script.specs.Scripts.{script_from}
use Rattle.trial_script.proofs.script.read_body.Given as goal

-- the lines that are left go on from the rules so far
abbrev pub invariant-loop-raw : goal.invariant-loop-raw
invariant-loop-raw l = record {
  few : l.number + length l.rest < 2 ^ 64;
  all : script_from l.rules l.number (lines_of l.rest) ≡ script_from no_rules 2 (lines_of l.bytes);
}

abbrev pub decreases-loop-raw : goal.decreases-loop-raw
decreases-loop-raw l = length l.rest
