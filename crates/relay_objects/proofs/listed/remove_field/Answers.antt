use Rattle.std.proofs.Common.{◌≡◌, ◌-◌, rules, get_or, take, drop, Ok, Err, subst, sym, ap, ◌∙◌}
use Rattle.std.proofs.lemmas.List.{get_or_default}
use Rattle.std.proofs.lemmas.List.Sorted.{answers_always}
use Rattle.relay_objects.specs.declared.listed.LiveField.{LiveField}
use Rattle.relay_objects.specs.Listed.{LabelsRise}
use Rattle.relay_objects.proofs.RisingNumbers.{searched}
use Rattle.relay_objects.proofs.PeerParts.{field_label, part_is, field_absent, field_removed}
use Rattle.relay_objects.proofs.listed.remove_field.Goals as goal

pub returns-in-Ok-clause-items : goal.returns-in-Ok-clause-items
returns-in-Ok-clause-items c =
    let part = rw c.deref.ensures.value at c.part_of-start.ensures in
    let start = c.part_of-start.result.0 in
    let stop = c.part_of-start.result.1 in
    let list = c.args.fields.now.items in
    let own = take (stop - start) (drop start list) in
    let rise : LabelsRise own =
    subst LabelsRise (sym (part_is list c.args.field.peer start stop part)) c.requires.part in
    let facts = rw c.deref-2.ensures.value at c.in-Ok.ensures in
    let at = (searched field_label own c.args.field rise c.args.field.label (Ok c.in-Ok.at) facts.bound
    (facts.position (λ w. w.label) (answers_always _ _ _ (λ f a r g called. search rules)))).found in
    let label : (d : LiveField) → (get_or own c.in-Ok.at d).label ≡ c.args.field.label =
    λ d. ap field_label (get_or_default own c.in-Ok.at d c.args.field at.0) ∙ at.1 in
    rw c.remove.ensures.items (field_removed list c.args.field start stop part c.in-Ok.at at.0 rise label)

pub returns-in_default-clause-items : goal.returns-in_default-clause-items
returns-in_default-clause-items c =
    let part = rw c.deref.ensures.value at c.part_of-start.ensures in
    let start = c.part_of-start.result.0 in
    let stop = c.part_of-start.result.1 in
    let list = c.args.fields.now.items in
    let own = take (stop - start) (drop start list) in
    let rise : LabelsRise own =
    subst LabelsRise (sym (part_is list c.args.field.peer start stop part)) c.requires.part in
    let facts = rw c.deref-2.ensures.value at c.in_default.ensures in
    let none = (searched field_label own c.args.field rise c.args.field.label (Err c.in_default.field-0) facts.bound
    (facts.position (λ w. w.label) (answers_always _ _ _ (λ f a r g called. search rules)))).absent in
    field_absent list c.args.field start stop part
    (λ j d lt same. none j lt (ap field_label (get_or_default own j c.args.field d lt) ∙ same))
