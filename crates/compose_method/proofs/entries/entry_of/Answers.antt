use Rattle.std.proofs.Common.{arith, sym, ◌∙◌}
use Rattle.compose_method.proofs.PlacesOfKeys.{found, not_found, none_before}
use Rattle.compose_method.proofs.entries.entry_of.Goals as goal

pub returns-then-place-eq0 : goal.returns-then-place-eq0
returns-then-place-eq0 c =
    let facts = c.place_of-place.ensures in
    none_before c.args.entries.now c.args.keys.now c.place_of-place.result c.requires.order c.requires.apart
    record { bound = facts.bound; before = facts.before; behind = facts.behind } (omega arith)

pub returns-then-begin : goal.returns-then-begin
returns-then-begin c =
    let facts = c.place_of-place.ensures in
    found c.args.entries.now c.args.keys.now c.place_of-place.result c.index-entries-place.result c.requires.order
    c.requires.apart
    record { bound = facts.bound; before = facts.before; behind = facts.behind } (omega arith) c.index-entries-place.is
    (sym c.begin.ensures ∙ c.if-begin.true)

pub returns-else-begin : goal.returns-else-begin
returns-else-begin c =
    let facts = c.place_of-place.ensures in
    not_found c.args.entries.now c.args.keys.now c.place_of-place.result c.index-entries-place.result c.requires.order
    c.requires.apart
    record { bound = facts.bound; before = facts.before; behind = facts.behind } (omega arith) c.index-entries-place.is
    (sym c.begin.ensures ∙ c.if-begin.false)
