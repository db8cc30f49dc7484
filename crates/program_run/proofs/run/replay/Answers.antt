use Rattle.std.proofs.Common.{[]}
use Rattle.program_run.specs.declared.status.Status.TheVariants as status
use Rattle.program_run.specs.Transcript.{answer_from}
use Rattle.program_run.proofs.RunEnds.{none_law}
use Rattle.program_run.proofs.RunsWrite.{acts_ran, session_ran, migrated_ran, seats_ran, audit_ran, explain_ran, acts_law, session_law, migrated_law, seats_law, audit_law, explain_law}
use Rattle.program_run.proofs.MigratedLines.{migration_begins}
use Rattle.program_run.proofs.ActsPlayed.{acts_begin}
use Rattle.program_run.proofs.SeatsPlayed.{seats_begin}
use Rattle.program_run.proofs.AuditLines.{audit_begins}
use Rattle.program_run.proofs.SessionsPlayed.{session_begins}
use Rattle.program_run.proofs.run.replay.Goals as goal

pub play_input-requires-clause-follows : goal.play_input-requires-clause-follows
play_input-requires-clause-follows g c = session_begins

pub play_input-requires-in-Ok-clause-follows : goal.play_input-requires-in-Ok-clause-follows
play_input-requires-in-Ok-clause-follows g c = acts_begin

pub play_input-requires-in-Migrate-clause-follows : goal.play_input-requires-in-Migrate-clause-follows
play_input-requires-in-Migrate-clause-follows g c = migration_begins

pub returns-in-Replay-clause-ran : goal.returns-in-Replay-clause-ran
returns-in-Replay-clause-ran g c = session_ran c.args.command _ _ _ _ _ _ _ c.play_input.result c.in-Replay.is
    c.play_input.ensures.ran

pub returns-in-Replay-clause-line_by_line : goal.returns-in-Replay-clause-line_by_line
returns-in-Replay-clause-line_by_line g c =
    let l = c.play_input.ensures.line_by_line in
    (l.0, l.1, session_law c.args.command _ _ _ _ c.play_input.result l.0 c.in-Replay.is l.2)

pub returns-in-Ok-clause-ran : goal.returns-in-Ok-clause-ran
returns-in-Ok-clause-ran g c = acts_ran c.args.command _ _ _ _ _ _ _ c.play_input-in-Ok.result c.in-ReplayActs.is
    c.play_input-in-Ok.ensures.ran

pub returns-in-Ok-clause-line_by_line : goal.returns-in-Ok-clause-line_by_line
returns-in-Ok-clause-line_by_line g c =
    let l = c.play_input-in-Ok.ensures.line_by_line in
    (l.0, l.1, acts_law c.args.command _ _ _ _ c.play_input-in-Ok.result l.0 c.in-ReplayActs.is l.2)

pub returns-in-Err-clause-line_by_line : goal.returns-in-Err-clause-line_by_line
returns-in-Err-clause-line_by_line g c =
    let l = none_law (λ cut lines. answer_from cut [] lines) _ _ _ in
    (l.0, l.1, acts_law c.args.command _ _ _ _ status.NoMemory l.0 c.in-ReplayActs.is l.2)

pub returns-in-Migrate-clause-ran : goal.returns-in-Migrate-clause-ran
returns-in-Migrate-clause-ran g c =
    migrated_ran c.args.command _ _ _ _ _ _ _ c.play_input-in-Migrate.result c.in-Migrate.is
    c.play_input-in-Migrate.ensures.ran

pub returns-in-Migrate-clause-line_by_line : goal.returns-in-Migrate-clause-line_by_line
returns-in-Migrate-clause-line_by_line g c =
    let l = c.play_input-in-Migrate.ensures.line_by_line in
    (l.0, l.1, migrated_law c.args.command _ _ _ _ c.play_input-in-Migrate.result l.0 c.in-Migrate.is l.2)

pub play_input-requires-in-ReplaySeats-clause-follows : goal.play_input-requires-in-ReplaySeats-clause-follows
play_input-requires-in-ReplaySeats-clause-follows g c = seats_begin

pub returns-in-ReplaySeats-clause-ran : goal.returns-in-ReplaySeats-clause-ran
returns-in-ReplaySeats-clause-ran g c =
    seats_ran c.args.command _ _ _ _ _ _ _ c.play_input-in-ReplaySeats.result c.in-ReplaySeats.is
    c.play_input-in-ReplaySeats.ensures.ran

pub returns-in-ReplaySeats-clause-line_by_line : goal.returns-in-ReplaySeats-clause-line_by_line
returns-in-ReplaySeats-clause-line_by_line g c =
    let l = c.play_input-in-ReplaySeats.ensures.line_by_line in
    (l.0, l.1, seats_law c.args.command _ _ _ _ c.play_input-in-ReplaySeats.result l.0 c.in-ReplaySeats.is l.2)

pub play_input-requires-in-Audit-clause-follows : goal.play_input-requires-in-Audit-clause-follows
play_input-requires-in-Audit-clause-follows g c = audit_begins

pub returns-in-Audit-clause-ran : goal.returns-in-Audit-clause-ran
returns-in-Audit-clause-ran g c =
    audit_ran c.args.command _ _ _ _ _ _ _ c.play_input-in-Audit.result c.in-Audit.is
    c.play_input-in-Audit.ensures.ran

pub returns-in-Audit-clause-line_by_line : goal.returns-in-Audit-clause-line_by_line
returns-in-Audit-clause-line_by_line g c =
    let l = c.play_input-in-Audit.ensures.line_by_line in
    (l.0, l.1, audit_law c.args.command _ _ _ _ c.play_input-in-Audit.result l.0 c.in-Audit.is l.2)

pub returns-in-Explain-clause-ran : goal.returns-in-Explain-clause-ran
returns-in-Explain-clause-ran g c =
    explain_ran c.in-Explain.lines c.args.command _ _ _ _ _ _ _ c.explain.result c.in-Explain.is
    c.explain.ensures.ran

pub returns-in-Explain-clause-line_by_line : goal.returns-in-Explain-clause-line_by_line
returns-in-Explain-clause-line_by_line g c =
    let l = c.explain.ensures.line_by_line in
    (l.0, l.1, explain_law c.in-Explain.lines c.args.command _ _ _ _ c.explain.result l.0 c.in-Explain.is l.2)
