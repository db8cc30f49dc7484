use Rattle.audit_fields.proofs.FieldMessageFirst.{from_empty}
use Rattle.audit_fields.proofs.PiecesHeard.{first_follows}
use Rattle.audit_fields.proofs.comparison.Comparison.new.Goals as goal

pub invariant_of-result : goal.invariant_of-result
invariant_of-result c = from_empty c.new.result c.new.ensures

pub returns-clause-follows : goal.returns-clause-follows
returns-clause-follows c = first_follows _ c.new.ensures c.new-2.ensures.items
