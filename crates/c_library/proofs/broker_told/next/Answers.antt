use Rattle.std.proofs.Common.{◌≡◌, sym, subst, w64, to_z, of_z}
use Rattle.std.proofs.lemmas.Int.{to_z-of_z}
use Rattle.c_library.specs.ToldCalled.{Writes}
use Rattle.c_library.proofs.broker_told.next.Goals as goal

pub returns : goal.returns
returns c =
    let e = c.next.ensures in
    let same : to_z w64 (of_z w64 c.write.result) ≡ c.write.result =
    to_z-of_z w64 c.write.result (record { sfits = c.write.type_inv }) in record {
      heard = c.next.result;
      hands = e.hands;
      broker = e.broker;
      held = e.held;
      writes = subst (λ word. Writes c.next.result c.args.told.now c.write.new.told word) (sym same) c.write.ensures;
    }
