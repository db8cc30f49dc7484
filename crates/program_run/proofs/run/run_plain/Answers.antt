use Rattle.std.proofs.Common.{◌≡◌, true, sym, subst, rules}
use Rattle.program_run.specs.Run.{reads_nothing}
use Rattle.program_run.proofs.MigrationReplays.{migrates}
use Rattle.program_run.proofs.RunsWrite.{front_of, decided_of, decides, other_words, law_of, law_of_none}
use Rattle.program_run.proofs.run.run_plain.Goals as goal

pub returns-in-Some-clause-exact : goal.returns-in-Some-clause-exact
returns-in-Some-clause-exact g c = λ r w m.
    decided_of _ _ _ _ _ _ _ _ _ _ (sym c.in-Some.ensures) c.run_task.ensures.ran
    (decides _ _ _ _ _ _ _ _ _ c.run_task.ensures.ran r w m)

pub returns-in-Some-clause-front : goal.returns-in-Some-clause-front
returns-in-Some-clause-front g c = front_of _ _ _ _ _ _ _ _ _ _ (sym c.in-Some.ensures) c.run_task.ensures.ran

pub returns-in-Some-clause-decided : goal.returns-in-Some-clause-decided
returns-in-Some-clause-decided g c =
    λ h. decided_of _ _ _ _ _ _ _ _ _ _ (sym c.in-Some.ensures) c.run_task.ensures.ran h

pub returns-in-Some-clause-unread : goal.returns-in-Some-clause-unread
returns-in-Some-clause-unread g c = λ nothing.
    c.run_task.ensures.unread (subst (λ o. reads_nothing o ≡ true) (sym c.in-Some.ensures) nothing)

pub returns-in-Some-clause-line_by_line : goal.returns-in-Some-clause-line_by_line
returns-in-Some-clause-line_by_line g c =
    law_of _ c.in-Some.task _ (sym c.in-Some.ensures) c.run_task.ensures.line_by_line

pub returns-in-None-clause-exact : goal.returns-in-None-clause-exact
returns-in-None-clause-exact g c = λ r w m. other_words _ _ _ (sym c.in-None.ensures)

pub returns-in-None-clause-line_by_line : goal.returns-in-None-clause-line_by_line
returns-in-None-clause-line_by_line g c = law_of_none _ _ (sym c.in-None.ensures)

pub returns-in-Some-clause-migrates : goal.returns-in-Some-clause-migrates
returns-in-Some-clause-migrates g c = migrates

pub returns-in-None-clause-migrates : goal.returns-in-None-clause-migrates
returns-in-None-clause-migrates g c = migrates

pub returns-in-Some-clause-write_fault : goal.returns-in-Some-clause-write_fault
returns-in-Some-clause-write_fault g c = search rules

pub returns-in-Some-clause-bad_words : goal.returns-in-Some-clause-bad_words
returns-in-Some-clause-bad_words g c = search rules

pub returns-in-Some-clause-read_fault : goal.returns-in-Some-clause-read_fault
returns-in-Some-clause-read_fault g c = search rules
