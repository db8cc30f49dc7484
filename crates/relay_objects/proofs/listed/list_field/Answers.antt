use Rattle.std.proofs.Common.{◌≡◌, true, is_ok, sym, ◌∙◌}
use Rattle.relay_objects.specs.Objects.{is_field_kind}
use Rattle.relay_objects.specs.Listed.{live_field}
use Rattle.relay_objects.proofs.PeerParts.{part_inserted, rise_inserted}
use Rattle.relay_objects.proofs.listed.list_field.Goals as goal

pub returns-then-is_field-clause-rise : goal.returns-then-is_field-clause-rise
returns-then-is_field-clause-rise c =
    let part = rw c.deref.ensures.value at c.part_of-stop.ensures in
    let ok : is_ok c.insert.result ≡ true = c.insert.ensures.succeeds c.requires.room in
    rw (c.insert.ensures.items, ok)
    (rise_inserted c.args.fields.now.items
    (live_field c.args.object.now) c.part_of-stop.result.0 c.part_of-stop.result.1 part c.requires.rise)

pub returns-then-is_field-clause-parts : goal.returns-then-is_field-clause-parts
returns-then-is_field-clause-parts c = λ p.
    let part = rw c.deref.ensures.value at c.part_of-stop.ensures in
    let ok : is_ok c.insert.result ≡ true = c.insert.ensures.succeeds c.requires.room in
    let field : is_field_kind c.args.object.now.kind ≡ true = sym c.is_field.ensures ∙ c.if-is_field.true in
    rw (c.insert.ensures.items, ok, field)
    (part_inserted c.args.fields.now.items
    (live_field c.args.object.now) c.part_of-stop.result.0 c.part_of-stop.result.1 part p)
