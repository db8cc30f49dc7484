use Rattle.std.proofs.Common.{rules}
use Rattle.std.specs.Prelude.{nat_le}
use Rattle.std.proofs.lemmas.List.Sorted.{IsPartitionPoint-from_clause}
use Rattle.c_broker.proofs.OpenNumbers.{parted, placed, rise_above, has_above}
use Rattle.c_broker.proofs.open.first_above.Goals as goal

pub returns-clause-rise : goal.returns-clause-rise
returns-clause-rise c low high r =
    let xs = c.args.numbers.now in
    let point = IsPartitionPoint-from_clause (λ x. nat_le x c.args.after) _ _ c.partition_point.ensures.partitioned
    (parted low xs high c.args.after r) (λ a r q k. search rules) in
    rise_above xs c.args.after c.partition_point.result low high
    (placed xs c.args.after c.partition_point.result point) r

pub returns-clause-passed : goal.returns-clause-passed
returns-clause-passed c low high q r above none =
    let xs = c.args.numbers.now in
    let point = IsPartitionPoint-from_clause (λ x. nat_le x c.args.after) _ _ c.partition_point.ensures.partitioned
    (parted low xs high c.args.after r) (λ a r q k. search rules) in
    let at = placed xs c.args.after c.partition_point.result point in
    has_above xs c.args.after c.partition_point.result q (λ k d below within. at.first k d below) above none
