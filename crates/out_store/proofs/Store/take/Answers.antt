use Rattle.std.proofs.Common.{length, length-drop, List, ap, ◌∙◌, arith, rules}
use Rattle.out_store.specs.Queue.{Cell, queue}
use Rattle.out_store.proofs.CellsMove.{length-cells_from, begun_count-room, bytes_of-take}
use Rattle.out_store.proofs.StoreStandsFor.{IsSpaced-taken, cells_of-taken, tokens_of-taken, length-tokens_of-taken}
use Rattle.out_store.proofs.Store.take.Goals as goal

pub take_begun-count-requires : goal.take_begun-count-requires
take_begun-count-requires c = record {
  places =
      let few = begun_count-room c.read_into-n.result 0 (length c.self.inside.bytes.items) _ c.self.invariant.0 in
      omega arith;
}

pub invariant_of-self : goal.invariant_of-self
invariant_of-self c =
    rw (c.take_begun-count.ensures.rest, c.read_into-n.ensures.items, c.take_begun-count.ensures.count, length-drop) (
      IsSpaced-taken c.self.inside.front c.read_into-n.result
          (length c.self.inside.bytes.items) c.self.inside.begins.items (search rules) c.self.invariant.0 (omega arith),
      c.self.invariant.1,
    )

pub returns-clause-count : goal.returns-clause-count
returns-clause-count c = rw (← c.self.view_is, length-cells_from) c.read_into-n.ensures.count

pub returns-clause-bytes : goal.returns-clause-bytes
returns-clause-bytes c = rw (← c.self.view_is, bytes_of-take) c.read_into-n.ensures.read

pub returns-clause-token_count : goal.returns-clause-token_count
returns-clause-token_count c =
    rw (← c.self.view_is)
    (c.take_begun-count.ensures.count
    ∙ length-tokens_of-taken c.self.inside.front c.read_into-n.result c.self.inside.bytes.items
    c.self.inside.begins.items c.self.invariant.0)

pub returns-clause-tokens : goal.returns-clause-tokens
returns-clause-tokens c =
    rw (
      ← c.self.view_is,
      ← tokens_of-taken c.self.inside.front c.read_into-n.result c.self.inside.bytes.items c.self.inside.begins.items
          c.self.invariant.0,
      ← c.take_begun-count.ensures.count,
    ) c.take_begun-count.ensures.tokens

pub returns-clause-rest : goal.returns-clause-rest
returns-clause-rest c =
    rw (
      c.take_begun-count.ensures.rest,
      c.read_into-n.ensures.items,
      c.take_begun-count.ensures.count,
      ← c.self.view_is,
    )
    (ap (λ (l : List Cell). queue l c.self.inside.bytes.capacity)
    (cells_of-taken c.self.inside.front c.read_into-n.result c.self.inside.bytes.items c.self.inside.begins.items
    (search rules) c.self.invariant.0 (omega arith)))
