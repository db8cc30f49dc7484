use Rattle.std.proofs.Common.{◌≡◌, ◌+◌, Some, true, refl, sym, ◌∙◌, arith, rules}
use Rattle.program_run.proofs.AuditLines.{line_told, header_told}
use Rattle.program_run.proofs.audit.AuditPlayScript.line.Goals as goal

pub returns-in-Some : goal.returns-in-Some
returns-in-Some c = λ done output gathered few s held.
    let next : c.saturating_add-self.result ≡ c.args.self.now.before + 1 =
    omega (arith, few, s.count, c.saturating_add-self.ensures) in
    line_told c.args.self.now
    (record c.args.self.now {
      audit = Some c.play_line.new.audit;
      moment = c.play_line.new.moment;
      before = c.saturating_add-self.result;
    })
    c.in-Some.audit c.play_line.new.audit done c.args.raw.now output gathered c.play_line.result s c.in-Some.is
    (omega (arith, few, s.count)) c.play_line.ensures refl next held

pub returns-in_ok-new-in-None : goal.returns-in_ok-new-in-None
returns-in_ok-new-in-None c = λ done output gathered few s held.
    let next : c.saturating_add-self.result ≡ c.args.self.now.before + 1 =
    omega (arith, few, s.count, c.saturating_add-self.ensures) in
    let header : c.read_audit_header.result ≡ true = search rules in
    header_told c.args.self.now
    (record c.args.self.now { audit = Some c.in_ok-new-in-None.field-0; before = c.saturating_add-self.result })
    c.in_ok-new-in-None.field-0 done c.args.raw.now output gathered s c.in-None.is
    (sym c.read_audit_header.ensures ∙ header) c.in_ok-new-in-None.ensures.stands refl refl next held
