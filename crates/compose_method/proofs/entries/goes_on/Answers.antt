use Rattle.std.proofs.Common.{arith, ◌∙◌}
use Rattle.std.proofs.lemmas.Bool.{le-ltb}
use Rattle.compose_method.proofs.PlacesOfKeys.{goes_on-at, goes_on-past}
use Rattle.compose_method.proofs.entries.goes_on.Goals as goal

pub returns-then-place-entries : goal.returns-then-place-entries
returns-then-place-entries c =
    let facts = c.place_of-place.ensures in
    (rw (← c.index-entries-place.is) at c.begin_with.ensures)
    ∙ goes_on-at c.args.entries.now c.args.keys.now c.place_of-place.result c.index-entries-place.result c.requires
    record { bound = facts.bound; before = facts.before; behind = facts.behind } (omega arith) c.index-entries-place.is

pub returns-else-place-entries : goal.returns-else-place-entries
returns-else-place-entries c =
    let facts = c.place_of-place.ensures in
    le-ltb _ _ (omega arith) ∙ goes_on-past c.args.entries.now c.args.keys.now c.place_of-place.result c.requires
    record { bound = facts.bound; before = facts.before; behind = facts.behind } (omega arith)
