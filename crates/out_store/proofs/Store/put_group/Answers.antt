use Rattle.std.proofs.Common.{◌≡◌, length, List, take, ap, arith, rules}
use Rattle.std.proofs.lemmas.Grind.{common_steps}
use Rattle.out_store.specs.Queue.{Cell, queue}
use Rattle.out_store.proofs.CellsMove.{length-cells_from}
use Rattle.out_store.proofs.StoreStandsFor.{tokens-fit, IsSpaced-put, cells_of-put}
use Rattle.out_store.proofs.Store.put_group.Goals as goal

pub returns-then-group-capacity-clause-fits : goal.returns-then-group-capacity-clause-fits
returns-then-group-capacity-clause-fits c =
    rw (← c.self.view_is, length-cells_from) ((λ no. cc), (λ fits. absurd (omega (arith, fits))))

pub add_begins-requires : goal.add_begins-requires
add_begins-requires c = record {
  room = tokens-fit c.self.inside.front (length c.self.inside.bytes.items)
      (length c.args.group.now) c.self.inside.bytes.capacity c.self.inside.begins.capacity c.self.inside.begins.items
      c.args.tokens.now
      c.self.invariant.0 c.requires (omega arith) c.self.invariant.1;
}

pub invariant_of-self : goal.invariant_of-self
invariant_of-self c =
    let whole : take c.fill_from_slice.result c.args.group.now ≡ c.args.group.now = grind (arith, common_steps) in
    rw (c.add_begins.ensures.added, c.fill_from_slice.ensures.items, whole) (
      IsSpaced-put c.self.inside.front c.len-stored.result c.self.inside.bytes.items c.args.group.now
          c.self.inside.begins.items c.args.tokens.now (search rules) c.len-stored.ensures.len
          (omega arith) c.self.invariant.0 c.requires,
      c.self.invariant.1,
    )

pub returns-clause-fits : goal.returns-clause-fits
returns-clause-fits c = rw (← c.self.view_is, length-cells_from) ((λ _. omega arith), (λ _. search rules))

pub returns-clause-put : goal.returns-clause-put
returns-clause-put c =
    let whole : take c.fill_from_slice.result c.args.group.now ≡ c.args.group.now = grind (arith, common_steps) in
    rw (c.add_begins.ensures.added, c.fill_from_slice.ensures.items, whole, ← c.self.view_is)
    (ap (λ (l : List Cell). queue l c.self.inside.bytes.capacity)
    (cells_of-put c.self.inside.front c.len-stored.result c.self.inside.bytes.items c.args.group.now
    c.self.inside.begins.items c.args.tokens.now (search rules) c.len-stored.ensures.len
    (omega arith) c.self.invariant.0 c.requires))
