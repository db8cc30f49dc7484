use Rattle.audit_fields.proofs.SidesTold.{heard_by, unheard_by}
use Rattle.audit_fields.proofs.side.hear_side.Goals as goal

pub returns-clause-heard : goal.returns-clause-heard
returns-clause-heard c =
    heard_by c.args.place c.args.bytes.now c.args.sides.now c.index-sides-place.result c.hear.new.self c.hear.result
    c.requires
    c.hear.ensures.heard

pub returns-clause-unheard : goal.returns-clause-unheard
returns-clause-unheard c =
    unheard_by c.args.place c.args.bytes.now c.args.sides.now c.index-sides-place.result c.hear.result c.requires
    c.hear.ensures.unheard
