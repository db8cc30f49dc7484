use Rattle.std.proofs.Common.{◌≡◌, Some, ◌∙◌, subst, w64, to_z, of_z}
use Rattle.std.proofs.lemmas.Int.{to_z-of_z}
use Rattle.c_library.specs.Codes.{join_code, stamp_at}
use Rattle.c_library.specs.PeersCalled.{JoinsAs, Joined}
use Rattle.c_library.proofs.broker_peers.join.Goals as goal

pub returns : goal.returns
returns c =
    let old = c.args.seat.now in
    let new = c.join.new.self in
    let answer = c.join.result in
    let e = c.join.ensures in
    let word = to_z w64 (of_z w64 c.join_code.result) in
    let said : word ≡ join_code answer =
    to_z-of_z w64 c.join_code.result (record { sfits = c.join_code.type_inv }) ∙ c.join_code.ensures in
    let joined : Joined c.in-Some.role c.stamp_at.result old new answer = record {
      refused = e.refused;
      accepted = e.accepted;
      ok = e.ok;
      number = e.number;
      err = e.err;
      held = e.held;
      told = e.told;
    } in
    subst (λ role. JoinsAs (stamp_at c.args.moment) role old new word) c.in-Some.ensures
    (subst (λ given. JoinsAs given (Some c.in-Some.role) old new word) c.stamp_at.ensures (answer, said, joined))
