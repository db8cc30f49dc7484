use Rattle.std.proofs.Common.{arith, rules, ltb-true}
use Rattle.std.specs.Prelude.{nat_lt}
use Rattle.std.proofs.lemmas.Bool.{ltb-false}
use Rattle.std.proofs.lemmas.List.Sorted.{IsPartitionPoint-from_clause}
use Rattle.compose_method.proofs.PlacesOfKeys.{parted_singles}
use Rattle.compose_method.proofs.singles.single_place.Goals as goal

pub returns-clause-before : goal.returns-clause-before
returns-clause-before c =
    let point = IsPartitionPoint-from_clause (λ s. nat_lt s.key c.args.key) _ _ c.partition_point.ensures.partitioned
    (parted_singles c.args.singles.now c.args.key c.requires) (λ a r q k. search rules) in
    λ k d below. ltb-true _ _ (point.0 k d (omega arith) below)

pub returns-clause-behind : goal.returns-clause-behind
returns-clause-behind c =
    let point = IsPartitionPoint-from_clause (λ s. nat_lt s.key c.args.key) _ _ c.partition_point.ensures.partitioned
    (parted_singles c.args.singles.now c.args.key c.requires) (λ a r q k. search rules) in
    λ k d from within. ltb-false _ _ (point.1 k d from within)
