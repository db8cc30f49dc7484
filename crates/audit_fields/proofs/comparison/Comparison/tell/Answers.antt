use Rattle.std.proofs.Common.{◌++◌, ℕ, List, ap, ◌∙◌}
use Rattle.audit_fields.specs.FromField.{from_field}
use Rattle.audit_fields.specs.Comparing.{Comparing}
use Rattle.audit_fields.proofs.FieldMessageFirst.{settled_by}
use Rattle.audit_fields.proofs.PiecesHeard.{told_more}
use Rattle.audit_fields.proofs.comparison.Comparison.tell.Goals as goal

pub invariant_of-self-2 : goal.invariant_of-self-2
invariant_of-self-2 c = settled_by c.push.new.self c.pass.new.told c.pass.ensures

pub returns-clause-follows : goal.returns-clause-follows
returns-clause-follows c = λ told sent f.
    told_more told sent c.args.bytes.now c.args.self.now _ f
    (ap (λ (l : List ℕ). let x : Comparing = record { told = l; begun = c.self.inside.begun.items } in x)
    (c.pass.ensures ∙ ap from_field c.in_ok-push.ensures.ok)
    ∙ ap (λ (x : Comparing). record x { told = from_field (x.told ++ c.args.bytes.now) }) c.self.view_is)
