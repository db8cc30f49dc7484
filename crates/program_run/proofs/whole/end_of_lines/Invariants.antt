use Rattle.std.proofs.Common.{◌≤◌, length, drop}
use Rattle.wio_core.specs.Lines.{LacksFeed}
use Rattle.program_run.proofs.whole.end_of_lines.Given as goal

-- no line feed stands behind
abbrev pub invariant-back : goal.invariant-back
invariant-back l = record { within : l.end ≤ length l.bytes; tail : LacksFeed (drop l.end l.bytes) }

abbrev pub decreases-back : goal.decreases-back
decreases-back l = l.end
