use Rattle.std.proofs.Common.{rules, ◌≡◌, ◌<◌, ◌≤◌, List, length, get_or, true, false, ap, sym, subst, ◌∙◌}
use Rattle.std.specs.Prelude.{nat_lt, filter, not}
use Rattle.std.specs.List.{remove}
use Rattle.std.proofs.lemmas.List.Sorted.{IsPartitionPoint-from_clause}
use Rattle.broker_model.specs.Ids.{Made}
use Rattle.broker_model.specs.Kept.{is_object}
use Rattle.broker_audience.specs.declared.directory.Named.{Named}
use Rattle.broker_audience.specs.Directed.{made_of, made_from, AreFalling}
use Rattle.broker_audience.proofs.SearchByLabel.{parted, placed}
use Rattle.broker_audience.proofs.ForgottenObjects.{left_at, none_at, none_past}
use Rattle.broker_audience.proofs.directory.forget.Goals as goal

pub returns-in_default-clause-left : goal.returns-in_default-clause-left
returns-in_default-clause-left c =
    let falling : AreFalling (made_from c.deref.result.now) = rw c.deref.ensures.value c.requires.falling in
    let point =
    IsPartitionPoint-from_clause (λ o. nat_lt o.label c.args.label) _ _ c.partition_point-place.ensures.partitioned
    (parted c.deref.result.now c.args.label falling) (λ a r q k. search rules) in
    let at = placed c.deref.result.now c.args.label c.partition_point-place.result point in
    let same : c.deref-2.result.now ≡ c.deref.result.now = c.deref-2.ensures.value ∙ sym c.deref.ensures.value in
    let past : length c.deref.result.now ≤ c.partition_point-place.result =
    rw same at (c.in_default.ensures.lookup.3) in
    subst
    (λ (os : List Named). made_from os ≡ filter (λ (m : Made). not (is_object c.args.label m)) (made_from os))
    c.deref.ensures.value (none_past c.args.label c.deref.result.now c.partition_point-place.result at past)

pub returns-then-is_object-clause-left : goal.returns-then-is_object-clause-left
returns-then-is_object-clause-left c =
    let falling : AreFalling (made_from c.deref.result.now) = rw c.deref.ensures.value c.requires.falling in
    let point =
    IsPartitionPoint-from_clause (λ o. nat_lt o.label c.args.label) _ _ c.partition_point-place.ensures.partitioned
    (parted c.deref.result.now c.args.label falling) (λ a r q k. search rules) in
    let place = c.partition_point-place.result in
    let at = placed c.deref.result.now c.args.label place point in
    let same : c.deref-2.result.now ≡ c.deref.result.now = c.deref-2.ensures.value ∙ sym c.deref.ensures.value in
    let o = c.in-Some.object.now in
    let looked = c.in-Some.ensures.lookup in
    let read : o ≡ get_or c.deref.result.now place o =
    looked.1 ∙ ap (λ (os : List Named). get_or os place o) same in
    let within : place < length c.deref.result.now = rw same at (looked.3.0) in
    let passes : is_object c.args.label (made_of (get_or c.deref.result.now place o)) ≡ true =
    ap (λ (r : Named). is_object c.args.label (made_of r)) (sym read)
    ∙ sym c.is_object.ensures ∙ c.if-is_object.true in
    ap made_from c.remove.ensures.items
    ∙ subst
    (λ (os : List Named). made_from (remove os place)
    ≡ filter (λ (m : Made). not (is_object c.args.label m)) (made_from os))
    c.deref.ensures.value (left_at c.args.label c.deref.result.now place o falling at within passes)

pub returns-else-is_object-clause-left : goal.returns-else-is_object-clause-left
returns-else-is_object-clause-left c =
    let falling : AreFalling (made_from c.deref.result.now) = rw c.deref.ensures.value c.requires.falling in
    let point =
    IsPartitionPoint-from_clause (λ o. nat_lt o.label c.args.label) _ _ c.partition_point-place.ensures.partitioned
    (parted c.deref.result.now c.args.label falling) (λ a r q k. search rules) in
    let place = c.partition_point-place.result in
    let at = placed c.deref.result.now c.args.label place point in
    let same : c.deref-2.result.now ≡ c.deref.result.now = c.deref-2.ensures.value ∙ sym c.deref.ensures.value in
    let o = c.in-Some.object.now in
    let looked = c.in-Some.ensures.lookup in
    let read : o ≡ get_or c.deref.result.now place o =
    looked.1 ∙ ap (λ (os : List Named). get_or os place o) same in
    let within : place < length c.deref.result.now = rw same at (looked.3.0) in
    let fails : is_object c.args.label (made_of (get_or c.deref.result.now place o)) ≡ false =
    ap (λ (r : Named). is_object c.args.label (made_of r)) (sym read)
    ∙ sym c.is_object.ensures ∙ c.if-is_object.false in
    subst
    (λ (os : List Named). made_from os ≡ filter (λ (m : Made). not (is_object c.args.label m)) (made_from os))
    c.deref.ensures.value (none_at c.args.label c.deref.result.now place o falling at within fails)
