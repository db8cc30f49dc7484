-- What a table keeps.
use Rattle.compose_method.specs.Table.{Table, IsTable}
use Rattle.compose_method.specs.declared.table.ComposeTable.TheInside.{Inside}

abbrev pub seen : Inside → Table
seen t = record { singles = t.singles.items; entries = t.entries.items }

abbrev pub IsKept : Inside → Type 0
IsKept t = IsTable (seen t)
