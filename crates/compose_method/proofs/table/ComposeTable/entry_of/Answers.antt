use Rattle.std.proofs.Common.{◌≡◌}
use Rattle.std.specs.Prelude.{option_copied}
use Rattle.compose_method.specs.Kept.{seen}
use Rattle.compose_method.specs.Table.{begun_by}
use Rattle.compose_method.proofs.ReadingFronts.{entry_sizes}
use Rattle.compose_method.proofs.table.ComposeTable.entry_of.Goals as goal

pub returns-clause-fits : goal.returns-clause-fits
returns-clause-fits c =
    let found : option_copied c.entry_of.result ≡ begun_by c.self.inside.entries.items c.args.keys.now =
    rw c.deref.ensures.value at c.entry_of.ensures in
    entry_sizes (seen c.self.inside) c.args.keys.now c.entry_of.result c.self.invariant found
