use Rattle.std.proofs.Common.{rules, ltb, leb}
use Rattle.std.proofs.lemmas.List.Sorted.{IsPartitionPoint-from_clause}
use Rattle.relay_objects.proofs.PeerParts.{below_parted, up_to_parted, is_part}
use Rattle.relay_objects.proofs.listed.part_of.Goals as goal

pub returns : goal.returns
returns c =
    let fields = c.args.fields.now in
    let start = c.partition_point-start.result in
    let stop = c.partition_point-stop.result in
    let low = IsPartitionPoint-from_clause
    (λ w. ltb w.peer c.args.peer) fields start c.partition_point-start.ensures.partitioned
    (below_parted fields c.args.peer c.requires) (λ a r f' called. search rules) in
    let high = IsPartitionPoint-from_clause
    (λ w. leb w.peer c.args.peer) fields stop c.partition_point-stop.ensures.partitioned
    (up_to_parted fields c.args.peer c.requires) (λ a r f' called. search rules) in
    is_part fields c.args.peer start stop low c.partition_point-start.ensures.bound high
    c.partition_point-stop.ensures.bound
