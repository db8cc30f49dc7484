use Rattle.std.proofs.Common.{arith, rules}
use Rattle.std.proofs.lemmas.List.Sorted.{IsPartitionPoint-from_clause}
use Rattle.compose_method.specs.Order.{up_to}
use Rattle.compose_method.proofs.PlacesOfKeys.{parted_entries}
use Rattle.compose_method.proofs.entries.place_of.Goals as goal

pub returns-clause-before : goal.returns-clause-before
returns-clause-before c =
    let point = IsPartitionPoint-from_clause
    (λ e. up_to e.keys c.args.keys.now) _ _ c.partition_point.ensures.partitioned
    (parted_entries c.args.entries.now c.args.keys.now c.requires) (λ a r q k. search rules) in
    λ k d below. point.0 k d (omega arith) below

pub returns-clause-behind : goal.returns-clause-behind
returns-clause-behind c =
    let point = IsPartitionPoint-from_clause
    (λ e. up_to e.keys c.args.keys.now) _ _ c.partition_point.ensures.partitioned
    (parted_entries c.args.entries.now c.args.keys.now c.requires) (λ a r q k. search rules) in
    λ k d from within. point.1 k d from within
