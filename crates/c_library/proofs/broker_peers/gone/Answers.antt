use Rattle.std.proofs.Common.{◌≡◌, ◌∙◌, subst, w64, to_z, of_z}
use Rattle.std.proofs.lemmas.Int.{to_z-of_z}
use Rattle.c_library.specs.Codes.{done_code}
use Rattle.c_library.specs.PeersCalled.{Left}
use Rattle.c_library.proofs.broker_peers.gone.Goals as goal

pub returns : goal.returns
returns c =
    let old = c.args.seat.now in
    let new = c.gone.new.self in
    let answer = c.gone.result in
    let e = c.gone.ensures in
    let word = to_z w64 (of_z w64 c.done_code.result) in
    let said : word ≡ done_code answer =
    to_z-of_z w64 c.done_code.result (record { sfits = c.done_code.type_inv }) ∙ c.done_code.ensures in
    let left : Left c.args.peer c.stamp_at.result old new answer = record {
      refused = e.refused;
      accepted = e.accepted;
      ok = e.ok;
      err = e.err;
      held = e.held;
      told = e.told;
    } in
    (answer, said, subst (λ given. Left c.args.peer given old new answer) c.stamp_at.ensures left)
