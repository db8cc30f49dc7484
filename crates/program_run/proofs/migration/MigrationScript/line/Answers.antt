use Rattle.std.proofs.Common.{◌≡◌, ◌+◌, true, refl, sym, ◌∙◌, arith}
use Rattle.program_run.proofs.MigratedLines.{line_told_if, header_written}
use Rattle.program_run.proofs.migration.MigrationScript.line.Goals as goal

pub returns-then-self : goal.returns-then-self
returns-then-self c = λ done output gathered few s held.
    let next : c.saturating_add-self.result ≡ c.args.self.now.before + 1 =
    omega (arith, few, s.count, c.saturating_add-self.ensures) in
    line_told_if c.args.self.now
    (record c.args.self.now { text = c.migrate_line.new.text; before = c.saturating_add-self.result })
    done c.args.raw.now output gathered c.migrate_line.result s c.if-self.true (omega (arith, few, s.count))
    c.migrate_line.ensures.end c.if-self.true next c.migrate_line.ensures.text held

pub returns-in_ok-add_header-in-Some : goal.returns-in_ok-add_header-in-Some
returns-in_ok-add_header-in-Some c = λ done output gathered few s held.
    let next : c.saturating_add-self.result ≡ c.args.self.now.before + 1 =
    omega (arith, few, s.count, c.saturating_add-self.ensures) in
    header_written c.args.self.now
    (record c.args.self.now { text = c.add_header.new.text; is_begun = true; before = c.saturating_add-self.result })
    done c.args.raw.now output gathered c.in-Some.limits s c.if-self.false
    (sym c.in-Some.is ∙ c.in_ok-limits.ensures) refl next c.in_ok-add_header-in-Some.ensures held
