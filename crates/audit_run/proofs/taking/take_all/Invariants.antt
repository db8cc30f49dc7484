use Rattle.std.proofs.Common.{ℕ, List}
use Rattle.std.specs.Prelude.{replicate}
use Rattle.session_text.specs.declared.line.SessionLine.TheVariants.{Take}
use Rattle.seat_set.specs.Laws.{lines_played}
use Rattle.audit_run.specs.Taking.{audit_limits, takes_of}
use Rattle.audit_run.specs.Standing.{GoesOn, IsOnWay}
use Rattle.audit_run.proofs.taking.take_all.Given as goal

-- so many takes are left, and lead to the same
abbrev pub invariant-takes : goal.invariant-takes
invariant-takes l = (all : ℕ → List ℕ) → GoesOn all l.fn.player l.fn.gatherer →
    IsOnWay (lines_played audit_limits (takes_of l.number) l.fn.player.play) all
    (replicate l.left (Take l.number 4096)) l.player l.gatherer

abbrev pub decreases-takes : goal.decreases-takes
decreases-takes l = l.left
