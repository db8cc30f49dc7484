use Rattle.std.proofs.Common.{length, Option, ap, sym, ◌∙◌}
use Rattle.out_store.specs.Queue.{Queue}
use Rattle.broker_model.specs.declared.left.Left.{Left}
use Rattle.broker_model.specs.Ends.{cells_in}
use Rattle.broker_model.proofs.StoresLeft.{IsFound, is_found}
use Rattle.broker_model.proofs.left.stored_in.Goals as goal

pub returns-in-Some : goal.returns-in-Some
returns-in-Some c =
    let it : IsFound c.args.number c.in-Some.place c.args.left.now c.index-left-place.result =
    is_found c.args.number c.in-Some.place c.args.left.now c.index-left-place.result c.in-Some.ensures.there
    c.index-left-place.is in
    c.len.ensures.count
    ∙ sym (ap (λ (one : Left). length one.store.cells) c.index-left-place.is)
    ∙ sym (ap (λ (o : Option Queue). length (cells_in o)) it.found)
