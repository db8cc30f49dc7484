use Rattle.std.proofs.Common.{sym, ◌∙◌}
use Rattle.audit_fields.proofs.SidesTold.{told_nobody, told_app}
use Rattle.audit_fields.proofs.side.tell_side.Goals as goal

pub returns-in_ok-tell : goal.returns-in_ok-tell
returns-in_ok-tell c =
    told_app c.args.place c.args.bytes.now c.args.sides.now c.index-sides-place.result c.tell.new.self
    (sym c.is_app_at.ensures ∙ c.if-is_app_at.true) c.in_ok-tell.ensures.ok

pub returns-else-is_app_at : goal.returns-else-is_app_at
returns-else-is_app_at c =
    told_nobody c.args.place c.args.bytes.now c.args.sides.now (sym c.is_app_at.ensures ∙ c.if-is_app_at.false)
