use Rattle.std.proofs.Common.{◌≡◌, false, arith, rules}
use Rattle.compose_method.specs.Table.{has_single}
use Rattle.compose_method.specs.Kept.{seen}
use Rattle.compose_method.proofs.TableGrows.{with_single-table}
use Rattle.compose_method.proofs.table.ComposeTable.single.Goals as goal

pub invariant_of-self-2 : goal.invariant_of-self-2
invariant_of-self-2 c =
    let absent : has_single (seen c.self.inside) c.args.key ≡ false = search rules in
    rw (c.in_ok-put_single.ensures.ok, c.in_ok-text.ensures.value.0)
    (with_single-table (seen c.self.inside) c.args.key c.args.text.now c.self.invariant absent (omega arith) c.requires)
