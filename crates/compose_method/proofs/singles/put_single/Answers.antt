use Rattle.std.proofs.Common.{◌≡◌}
use Rattle.std.specs.Prelude.{nat_lt}
use Rattle.std.specs.List.{prefix_len}
use Rattle.compose_method.proofs.TableGrows.{single_place-is}
use Rattle.compose_method.proofs.singles.put_single.Goals as goal

pub returns-clause-ok : goal.returns-clause-ok
returns-clause-ok c =
    let facts = c.single_place-place.ensures in
    let there = single_place-is c.deref.result.now c.args.single.key c.single_place-place.result
    record { bound = facts.bound; before = facts.before; behind = facts.behind } in
    let here : prefix_len (λ x. nat_lt x.key c.args.single.key) c.args.singles.now.items ≡ c.single_place-place.result =
    rw c.deref.ensures.value at there in
    rw here c.in_ok-insert.ensures.items
