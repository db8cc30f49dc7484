-- The items that a past shows.
use Rattle.std.specs.Prelude.{List, [], ◌∷◌, ◌++◌, reverse}
use Rattle.out_store.specs.declared.past.Link.{Link, fold-Link}
use Rattle.out_store.specs.declared.past.Link.TheOpen.{Link-F}

-- the items of one link, where those before it are known
abbrev pub items_by : {T : Type 0} → Link-F T (List T) → List T
items_by Link-F.Nothing = []
items_by (Link-F.One item before) = item.value ∷ before.value
items_by (Link-F.All items before) = reverse items.value.items ++ before.value
items_by (Link-F.Again other) = other.value.value

-- the items of all links, the newest first
abbrev pub items_seen : {T : Type 0} → Link T → List T
items_seen {T} = fold-Link T (List T) items_by
