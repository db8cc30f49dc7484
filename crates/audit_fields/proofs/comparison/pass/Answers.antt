use Rattle.std.proofs.Common.{◌≡◌, ℕ, List, drop, sym, ap, ◌∙◌}
use Rattle.std.proofs.lemmas.List.{drop-drop}
use Rattle.wl_wire.specs.Messages.{messages}
use Rattle.audit_fields.specs.FromField.{before_field}
use Rattle.audit_fields.proofs.FieldMessageFirst.{from_is}
use Rattle.audit_fields.proofs.comparison.pass.Goals as goal

pub returns : goal.returns
returns c =
    let left : List ℕ = drop c.args.count c.args.told.now in
    let same : c.split_at.result.1.now ≡ left =
    c.split_at.ensures.back ∙ ap (drop c.args.count) c.as_slice.ensures in
    let others : c.before_field-others.result ≡ before_field (messages left) =
    c.before_field-others.ensures.is ∙ ap (λ (l : List ℕ). before_field (messages l)) same in
    c.let_go.ensures ∙ sym (drop-drop c.before_field-others.result c.args.count c.args.told.now)
    ∙ ap (λ n. drop n left) others ∙ sym (from_is left)
