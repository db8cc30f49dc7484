use Rattle.std.proofs.Common.{arith}
use Rattle.compose_method.proofs.PlacesOfKeys.{single_found, single_not_found, no_single_behind}
use Rattle.compose_method.proofs.singles.find_single.Goals as goal

pub returns-then-place-singles : goal.returns-then-place-singles
returns-then-place-singles c =
    let facts = c.single_place-place.ensures in
    no_single_behind c.args.singles.now c.args.key c.single_place-place.result
    record { bound = facts.bound; before = facts.before; behind = facts.behind } (omega arith)

pub returns-then-single-key : goal.returns-then-single-key
returns-then-single-key c =
    let facts = c.single_place-place.ensures in
    single_found c.args.singles.now c.args.key c.single_place-place.result c.index-singles-place.result
    record { bound = facts.bound; before = facts.before; behind = facts.behind } (omega arith) c.index-singles-place.is
    (omega arith)

pub returns-else-single-key : goal.returns-else-single-key
returns-else-single-key c =
    let facts = c.single_place-place.ensures in
    single_not_found c.args.singles.now c.args.key c.single_place-place.result c.index-singles-place.result c.requires
    record { bound = facts.bound; before = facts.before; behind = facts.behind } (omega arith) c.index-singles-place.is
    (λ e. absurd (omega arith))
