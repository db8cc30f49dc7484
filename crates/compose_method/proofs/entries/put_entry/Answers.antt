use Rattle.std.proofs.Common.{◌≡◌}
use Rattle.std.specs.List.{prefix_len}
use Rattle.compose_method.specs.Order.{up_to}
use Rattle.compose_method.proofs.TableGrows.{entry_place}
use Rattle.compose_method.proofs.entries.put_entry.Goals as goal

pub returns-clause-ok : goal.returns-clause-ok
returns-clause-ok c =
    let facts = c.place_of-place.ensures in
    let there = entry_place c.deref.result.now c.as_slice.result.now c.place_of-place.result
    record { bound = facts.bound; before = facts.before; behind = facts.behind } in
    let here : prefix_len (λ x. up_to x.keys c.args.entry.keys) c.args.entries.now.items ≡ c.place_of-place.result =
    rw (c.as_slice.ensures, c.deref.ensures.value) at there in
    rw here c.in_ok-insert.ensures.items
