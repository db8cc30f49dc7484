use Rattle.std.proofs.Common.{◌≡◌, false, arith, rules}
use Rattle.compose_method.specs.Table.{clashes}
use Rattle.compose_method.specs.Kept.{seen}
use Rattle.compose_method.proofs.TableGrows.{with_entry-table}
use Rattle.compose_method.proofs.table.ComposeTable.entry.Goals as goal

pub invariant_of-self-2 : goal.invariant_of-self-2
invariant_of-self-2 c =
    let apart : clashes (seen c.self.inside) c.args.keys.now ≡ false = search rules in
    rw (c.in_ok-put_entry.ensures.ok, c.in_ok-of.ensures, c.in_ok-of-2.ensures.value.0)
    (with_entry-table (seen c.self.inside) c.args.text.now c.args.keys.now c.self.invariant apart
    (omega arith) c.requires.text c.requires.keys)
