use Rattle.std.proofs.Common.{rules, ◌≡◌, ◌<◌, ◌≤◌, List, length, get_or, option_map, ap, sym, ◌∙◌}
use Rattle.std.specs.Prelude.{nat_lt}
use Rattle.std.proofs.lemmas.List.Sorted.{IsPartitionPoint-from_clause}
use Rattle.broker_model.specs.Ids.{made_as}
use Rattle.broker_audience.specs.declared.directory.Named.{Named}
use Rattle.broker_audience.specs.Directed.{Directed, made_of, made_from, AreFalling}
use Rattle.broker_audience.proofs.SearchByLabel.{parted, placed, found, not_found, none_behind}
use Rattle.broker_audience.proofs.directory.Directory.find.Goals as goal

pub returns-in_err-object : goal.returns-in_err-object
returns-in_err-object c =
    let falling : AreFalling (made_from c.deref.result.now) = rw c.deref.ensures.value c.self.invariant in
    let shown : made_from c.deref.result.now ≡ c.args.self.now.made =
    ap made_from c.deref.ensures.value ∙ ap (λ (d : Directed). d.made) c.self.view_is in
    let point =
    IsPartitionPoint-from_clause (λ o. nat_lt o.label c.args.label) _ _ c.partition_point-place.ensures.partitioned
    (parted c.deref.result.now c.args.label falling) (λ a r q k. search rules) in
    let at = placed c.deref.result.now c.args.label c.partition_point-place.result point in
    let same : c.deref-2.result.now ≡ c.deref.result.now = c.deref-2.ensures.value ∙ sym c.deref.ensures.value in
    let past : length c.deref.result.now ≤ c.partition_point-place.result =
    rw same at (c.in_err-object.ensures.lookup.3) in
    record {
      value =
          ap (option_map made_of) c.from_residual.ensures
          ∙ none_behind c.deref.result.now c.args.label c.partition_point-place.result falling at past
          ∙ ap (λ ms. made_as ms c.args.label) shown;
    }

pub returns-then-object-label : goal.returns-then-object-label
returns-then-object-label c =
    let falling : AreFalling (made_from c.deref.result.now) = rw c.deref.ensures.value c.self.invariant in
    let shown : made_from c.deref.result.now ≡ c.args.self.now.made =
    ap made_from c.deref.ensures.value ∙ ap (λ (d : Directed). d.made) c.self.view_is in
    let point =
    IsPartitionPoint-from_clause (λ o. nat_lt o.label c.args.label) _ _ c.partition_point-place.ensures.partitioned
    (parted c.deref.result.now c.args.label falling) (λ a r q k. search rules) in
    let at = placed c.deref.result.now c.args.label c.partition_point-place.result point in
    let same : c.deref-2.result.now ≡ c.deref.result.now = c.deref-2.ensures.value ∙ sym c.deref.ensures.value in
    let o = c.in_ok-object.object.now in
    let looked = c.in_ok-object.ensures.lookup in
    let read : o ≡ get_or c.deref.result.now c.partition_point-place.result o =
    looked.1 ∙ ap (λ (os : List Named). get_or os c.partition_point-place.result o) same in
    let within : c.partition_point-place.result < length c.deref.result.now = rw same at (looked.3.0) in
    record {
      value =
          found c.deref.result.now c.args.label c.partition_point-place.result o falling at within read
          c.if-object-label.true ∙ ap (λ ms. made_as ms c.args.label) shown;
    }

pub returns-else-object-label : goal.returns-else-object-label
returns-else-object-label c =
    let falling : AreFalling (made_from c.deref.result.now) = rw c.deref.ensures.value c.self.invariant in
    let shown : made_from c.deref.result.now ≡ c.args.self.now.made =
    ap made_from c.deref.ensures.value ∙ ap (λ (d : Directed). d.made) c.self.view_is in
    let point =
    IsPartitionPoint-from_clause (λ o. nat_lt o.label c.args.label) _ _ c.partition_point-place.ensures.partitioned
    (parted c.deref.result.now c.args.label falling) (λ a r q k. search rules) in
    let at = placed c.deref.result.now c.args.label c.partition_point-place.result point in
    let same : c.deref-2.result.now ≡ c.deref.result.now = c.deref-2.ensures.value ∙ sym c.deref.ensures.value in
    let o = c.in_ok-object.object.now in
    let looked = c.in_ok-object.ensures.lookup in
    let read : o ≡ get_or c.deref.result.now c.partition_point-place.result o =
    looked.1 ∙ ap (λ (os : List Named). get_or os c.partition_point-place.result o) same in
    let within : c.partition_point-place.result < length c.deref.result.now = rw same at (looked.3.0) in
    record {
      value =
          not_found c.deref.result.now c.args.label c.partition_point-place.result o falling at within read
          c.if-object-label.false ∙ ap (λ ms. made_as ms c.args.label) shown;
    }
