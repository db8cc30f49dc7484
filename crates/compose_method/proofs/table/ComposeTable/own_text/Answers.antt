use Rattle.std.proofs.Common.{◌≡◌, Some, sym}
use Rattle.compose_method.specs.Kept.{seen}
use Rattle.compose_method.specs.Table.{single_of}
use Rattle.compose_method.proofs.ReadingFronts.{single_fits}
use Rattle.compose_method.proofs.table.ComposeTable.own_text.Goals as goal

pub returns-in-Some-clause-limit : goal.returns-in-Some-clause-limit
returns-in-Some-clause-limit c =
    let found : Some c.in-Some.single.now ≡ single_of c.self.inside.singles.items c.args.key =
    rw c.deref.ensures.value at c.in-Some.ensures in
    rw c.as_str.ensures.value
    (single_fits (seen c.self.inside) c.args.key c.in-Some.single.now c.self.invariant (sym found)).few

pub returns-in-Some-clause-clean : goal.returns-in-Some-clause-clean
returns-in-Some-clause-clean c =
    let found : Some c.in-Some.single.now ≡ single_of c.self.inside.singles.items c.args.key =
    rw c.deref.ensures.value at c.in-Some.ensures in
    rw c.as_str.ensures.value
    (single_fits (seen c.self.inside) c.args.key c.in-Some.single.now c.self.invariant (sym found)).clean
